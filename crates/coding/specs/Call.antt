-- The coding call: the questions in order, and what it leaves in every element of buffer and store. 01, "The questions, put in this order".
use Rattle.std.specs.Prelude.{ℕ, zero, suc, false, cond, List, [], ◌∷◌, eqb, leb, Some, None}
use Rattle.std.proofs.Math.Option.{Option, none, some}
use lib.ListN.{length}
use Rattle.questions.specs.Questions.{first_refusal, encode_limit}
use Rattle.questions.specs.Buffer.{padded}
use Rattle.utf8.specs.Utf8.{first_fault}
use Rattle.coding.specs.Tokens.{Token, tokens, in_order, chars, baseless}
use Rattle.coding.specs.Candidates.{Cand, candidates_of}
use Rattle.coding.specs.Search.{Coded, code}
use Rattle.coding.specs.Store.{needs, fit}

-- what the caller lends: the cell table, the two options, the text, and how many numbers and bytes the store and the buffer hold
pub record Lent : Type 0 where
  pub cells : List ℕ
  pub initial : ℕ
  pub width : ℕ
  pub text : List ℕ
  pub store_room : ℕ
  pub coding_room : ℕ

-- the text's characters in the order in which they are coded, and their candidates
unfoldable pub ordering : Lent → List Token
unfolding in_order tokens
ordering c = in_order (tokens c.text)

unfoldable pub choices : Lent → List (List Cand)
unfolding candidates_of ordering chars
choices c = candidates_of c.cells (eqb c.width 1) (chars (ordering c))

-- the coding to which the search leads, with its gap
unfoldable pub coding : Lent → Coded
unfolding code choices
coding c = code (choices c) c.initial

-- "Has each character a candidate?": the place of the first that has none
unfoldable pub without : List Token → List (List Cand) → Option ℕ
without [] css = none
without (t ∷ ts) [] = none
without (t ∷ ts) ([] ∷ css) = some t.place
without (t ∷ ts) ((k ∷ ks) ∷ css) = without ts css

-- the number of a refusal, 0 for none, and its place
pub record Refusal : Type 0 where
  pub number : ℕ
  pub place : ℕ

abbrev pub refuse : ℕ → ℕ → Refusal
refuse number place = record { number = number; place = place }

-- "If no, 8": "Does the whole .. coding fit its buffer"
unfoldable pub question8 : ℕ → Coded → Refusal
question8 room k = cond (leb (length k.out) room) (refuse 0 0) (refuse 8 0)

-- "If no, 7": at each layer what the search needs fits the store
unfoldable pub question7 : Lent → Refusal
unfolding fit needs choices question8 coding
question7 c = cond (fit c.store_room (needs (choices c) c.initial)) (question8 c.coding_room (coding c)) (refuse 7 0)

-- "If no, 6 at the first without"
unfoldable pub question6 : Lent → Refusal
unfolding without ordering choices question7
question6 c = elim (without (ordering c) (choices c)) [ some p ↦ refuse 6 p | none ↦ question7 c ]

-- "If no, 5 at the first such mark, even behind a character of 6"
unfoldable pub question5 : Lent → Refusal
unfolding baseless tokens question6
question5 c = elim (baseless false (tokens c.text)) [ some p ↦ refuse 5 p | none ↦ question6 c ]

-- "If no, 4 at the first byte of the first faulty sequence"
unfoldable pub question4 : Lent → Refusal
unfolding first_fault question5
question4 c = elim (first_fault c.text) [ Some p ↦ refuse 4 p | None ↦ question5 c ]

-- the first question that fails, of 1 to 8
unfoldable pub refusal : Lent → Refusal
unfolding first_refusal question4
refusal c = elim (first_refusal c.cells c.initial c.width encode_limit (length c.text)) [ zero ↦ question4 c | suc q ↦ refuse (suc q) 0 ]

-- What the call gives: the number of the refusal (0: none) and its place, the coding's length, the gap, the buffer and the store.
pub record Outcome : Type 0 where
  pub refused : ℕ
  pub place : ℕ
  pub length : ℕ
  pub gap : ℕ
  pub buffer : List ℕ
  pub store : List ℕ

-- "A refusal gives the number and the byte place .., with all counts 0 and each output buffer zero-filled. Acceptance gives the lengths, .. the
-- gap; output past the result is zero." "The search store .. is all zero after every call"
unfoldable pub outcome_of : Refusal → Lent → Outcome
unfolding coding padded
outcome_of r c =
    elim r.number [
      | zero ↦
          record {
            refused = 0;
            place = 0;
            length = lib.ListN.length (coding c).out;
            gap = (coding c).gap;
            buffer = padded c.coding_room (coding c).out;
            store = padded c.store_room [];
          }
      | suc q ↦ record { refused = suc q; place = r.place; length = 0; gap = 0; buffer = padded c.coding_room []; store = padded c.store_room [] }
    ]

unfoldable pub outcome : Lent → Outcome
unfolding outcome_of refusal
outcome c = outcome_of (refusal c) c
