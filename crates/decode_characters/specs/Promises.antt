-- What a function promises that reads one character, the macro set's excepted.
use Rattle.std.specs.Prelude.{ℕ, ◌≡◌, List}
use Rattle.reading.specs.State.{Given, State}
use Rattle.decode_state.specs.declared.Core.{Core}
use Rattle.decode_state.specs.Promises.{whole, Does, Kept}

-- a change as f goes, over a cell table and whatever the macros
pub record Did (cells : List ℕ) (f : Given → State → State) (c : Core) (t i : List ℕ) (r : Core) (t' i' : List ℕ) : Type 0 where
  pub does : (g : Given) → g.cells ≡ cells → (starts lens : List ℕ) → Does g (f g) (whole c starts lens) t i (whole r starts lens) t' i'
  pub kept : Kept 1 c r
