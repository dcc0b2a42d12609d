-- What a key call gives of a title that reads without issue and charge, from its text alone. Assumes nothing.
use Prim.Native.Nat.{ℕ}
use mathlib.Core.Path.{◌≡◌, refl, ap, ◌∙◌}
use mathlib.Core.Bool.{Bool, true, false, cond}
use mathlib.Core.List.{List, []}
use lib.Dec.{eqb, leb}
use lib.ListN.{length}
use Rattle.private_use.specs.PrivateUse.{private_use}
use Rattle.utf8.specs.Utf8.{utf8s}
use Rattle.questions.specs.Buffer.{padded}
use Rattle.reading.specs.State.{State}
use Rattle.reading.specs.Call as decoding
use Rattle.key_text.specs.KeyText.{key_text}
use Rattle.key.specs.Key.{Lent, reading, text_bytes, key_bytes, refusal, Outcome, outcome_of, outcome}
use Rattle.key.specs.Laws.{first_of}
use Rattle.key.proofs.Laws.{key_questions}

pub record Reads (s : State) (text : List ℕ) : Type 0 where
  pub text_is : s.out.text ≡ text
  pub no_issue : s.out.issues ≡ []
  pub no_charge : s.charged ≡ 0

-- the outcome by a number of refusal, and by the text and its bytes where questions 1 to 3 are passed
abbrev pub refused : ℕ → ℕ → Outcome
refused number room = record { refused = number; len = 0; charged = 0; buffer = padded room [] }

abbrev pub keyed : ℕ → List ℕ → Outcome
keyed room key = record { refused = 0; len = length key; charged = 0; buffer = padded room key }

abbrev pub by_text : ℕ → List ℕ → List ℕ → Outcome
by_text room text bytes =
    cond (leb (length bytes) room) (cond (eqb (private_use text) 0) (keyed room (utf8s (key_text text))) (refused 11 room)) (refused 8 room)

module _ (c : Lent) (text : List ℕ) (r : Reads (reading c) text) where
  pub its_key : key_bytes c ≡ utf8s (key_text text)
  unfolding key_bytes
  its_key = ap (λ (l : List ℕ). utf8s (key_text l)) r.text_is

  module _ (bytes : List ℕ) (b : utf8s text ≡ bytes) (f : first_of c ≡ 0) where
    its_text : text_bytes c ≡ bytes
    unfolding text_bytes reading decoding.text_bytes
    its_text = ap utf8s r.text_is ∙ b

    -- the two questions that are left
    pub its_number : refusal c ≡ cond (leb (length bytes) c.room) (cond (eqb (private_use text) 0) 0 11) 8
    its_number = (key_questions c).rest f ∙ rw (its_text, r.no_issue, r.text_is)

    pub its_outcome : outcome c ≡ by_text c.room text bytes
    unfolding outcome outcome_of
    its_outcome = ap (λ (n : ℕ). outcome_of n c) its_number ∙ go (leb (length bytes) c.room) (eqb (private_use text) 0)
      where
        go : (fits ordinary : Bool) → outcome_of (cond fits (cond ordinary 0 11) 8) c
            ≡ cond fits (cond ordinary (keyed c.room (utf8s (key_text text))) (refused 11 c.room)) (refused 8 c.room)
        go true true = rw (its_key, r.no_charge)
        go true false = refl
        go false ordinary = refl
