-- The key call: 01, "Keys" and "The questions, put in this order", and request 6 of docs/REQUESTS.md.
use Rattle.std.specs.Prelude.{ℕ, zero, suc, cond, List, [], eqb, length}
use Rattle.private_use.specs.PrivateUse.{private_use}
use Rattle.utf8.specs.Utf8.{utf8s}
use Rattle.questions.specs.Buffer.{padded}
use Rattle.reading.specs.State.{State}
use Rattle.reading.specs.Call as decoding
use Rattle.key_text.specs.KeyText.{key_text}

-- what the caller lends: the cell table, the two options, the input, and how many bytes the buffer holds
pub record Lent : Type 0 where
  pub cells : List ℕ
  pub initial : ℕ
  pub width : ℕ
  pub input : List ℕ
  pub room : ℕ

-- the decoding of the same input into the same buffer, with none for issues
abbrev pub decoding_of : Lent → decoding.Lent
decoding_of c = record { cells = c.cells; initial = c.initial; width = c.width; input = c.input; text_room = c.room; issue_room = 0 }

-- the reading of the input, and the bytes of its text before removal
unfoldable pub reading : Lent → State
unfolding decoding.reading
reading c = decoding.reading (decoding_of c)

unfoldable pub text_bytes : Lent → List ℕ
unfolding decoding.text_bytes
text_bytes c = decoding.text_bytes (decoding_of c)

-- the key's bytes
unfoldable pub key_bytes : Lent → List ℕ
unfolding reading key_text utf8s
key_bytes c = utf8s (key_text (reading c).out.text)

-- The number of a decoding's refusal as a key's. With no room for issues the decoding's 9 says that there is one: "For a key, is the decoding free of
-- issues? If no, 10."
abbrev pub question_of : ℕ → ℕ
question_of q = cond (eqb q 9) 10 q

-- "A key with any such character is refused after question 10: number 11"
unfoldable pub eleventh : Lent → ℕ
unfolding reading private_use
eleventh c = cond (eqb (private_use (reading c).out.text) 0) 0 11

-- The number of the first question that fails, of 1, 2, 3, 8, 10 and 11; 0 where none does. Question 8 is the decoding's: "for a key, the text before
-- removal". specs/Laws.antt has 8, 10 and 11 in the papers' words.
unfoldable pub refusal : Lent → ℕ
unfolding decoding.refusal eleventh
refusal c = first (decoding.refusal (decoding_of c))
  where
    first : ℕ → ℕ
    first zero = eleventh c
    first (suc q) = question_of (suc q)

-- What the call gives: the number of the refusal (0: none), the key's length, the charge, and the buffer.
pub record Outcome : Type 0 where
  pub refused : ℕ
  pub len : ℕ
  pub charged : ℕ
  pub buffer : List ℕ

-- "Acceptance gives the lengths, the charge ..; output past the result is zero." "A refusal gives the number .. with all counts 0 and each output
-- buffer zero-filled"
unfoldable pub outcome_of : ℕ → Lent → Outcome
unfolding key_bytes reading padded
outcome_of zero c = record { refused = 0; len = length (key_bytes c); charged = (reading c).charged; buffer = padded c.room (key_bytes c) }
outcome_of (suc q) c = record { refused = suc q; len = 0; charged = 0; buffer = padded c.room [] }

unfoldable pub outcome : Lent → Outcome
unfolding outcome_of refusal
outcome c = outcome_of (refusal c) c
