-- A call that is lent no buffers, as requests 2 and 5 have them (docs/REQUESTS.md): what it reads and which questions it puts.
use Rattle.std.specs.Prelude.{ℕ, List, length}
use Rattle.questions.specs.Questions.{first_refusal, decode_limit}
use Rattle.reading.specs.State.{State}
use Rattle.reading.specs.Call as decoding

-- what the caller lends: the cell table, the two options and the input
pub record Lent : Type 0 where
  pub cells : List ℕ
  pub initial : ℕ
  pub width : ℕ
  pub input : List ℕ

abbrev pub lent : List ℕ → ℕ → ℕ → List ℕ → Lent
lent cells initial width input = record { cells = cells; initial = initial; width = width; input = input }

-- the decoding of the same input into buffers of these lengths
abbrev pub decoding_in : ℕ → ℕ → Lent → decoding.Lent
decoding_in text_room issue_room c = record { cells = c.cells; initial = c.initial; width = c.width; input = c.input; text_room = text_room; issue_room = issue_room }

-- its reading, which no buffer decides
unfoldable pub reading : Lent → State
unfolding decoding.reading
reading c = decoding.reading (decoding_in 0 0 c)

-- "puts questions 1 to 3", "Questions 1 to 3 apply": the number of the first one that fails, 0 where none does
unfoldable pub refusal : Lent → ℕ
unfolding first_refusal
refusal c = first_refusal c.cells c.initial c.width decode_limit (length c.input)
