-- A decoded text is of Unicode scalar values, so that its bytes are well-formed UTF-8, and what is counted of them can be seen in the buffer.
-- proofs/Scalars.antt proves each law under its name.
use Rattle.std.specs.Prelude.{ℕ, ◌<◌, ◌≡◌, true, T, take, get_or, None}
use Rattle.private_use.specs.PrivateUse.{private_use}
use Rattle.utf8.specs.Utf8.{are_scalars, utf8s, first_fault, scalars}
use Rattle.questions.specs.Questions.{cells_hold}
use Rattle.reading.specs.State.{Given}
use Rattle.reading.specs.Steps.{decode}
use Rattle.reading.specs.Call.{Lent, outcome}

-- a cell table of 16-bit numbers that question 1 admits
pub record Table (g : Given) : Type 0 where
  pub admitted : cells_hold g.cells ≡ true
  pub numbers : (k : ℕ) → get_or g.cells k 0 < 0x10000

abbrev pub TextScalars : Type 0
TextScalars = (g : Given) (initial : ℕ) → Table g → T (are_scalars (decode g initial).out.text)

abbrev pub TextWellFormed : Type 0
TextWellFormed = (g : Given) (initial : ℕ) → Table g → first_fault (utf8s (decode g initial).out.text) ≡ None

-- "the private-use characters in its text": those of the text that is returned, as its bytes are read, whatever they came from. The numbers of a lent
-- table have 16 bits; a refused call returns no text.
abbrev pub TextPrivateUse : Type 0
TextPrivateUse =
    (c : Lent) → ((k : ℕ) → get_or c.cells k 0 < 0x10000) → (outcome c).private_use ≡ private_use (scalars (take (outcome c).text (outcome c).text_buffer))
