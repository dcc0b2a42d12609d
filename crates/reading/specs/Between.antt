-- A reading between steps: request 9 of docs/REQUESTS.md. Nothing of `decode` stands on this.
use Rattle.std.specs.Prelude.{ℕ, zero, suc, ◌+◌, ◌-◌, cond, List, [], ◌∷◌, leb, drop}
use Rattle.decode_output.specs.Output.{release}
use Rattle.reading.specs.State.{Given, State, start, writes}
use Rattle.reading.specs.Macros.{Run}
use Rattle.reading.specs.Steps.{step, offset, steps, run}

-- the byte at which the next step begins, or the end, and the state there
pub record Between : Type 0 where
  pub at : ℕ
  pub state : State

-- The steps as `steps` takes them, which has the other arguments, up to the first one that begins at the byte `to` or behind it. The bytes behind `to`
-- are seen: a step before it is the one of the whole reading.
unfoldable pub until : Given → ℕ → Run → ℕ → ℕ → ℕ → List ℕ → ℕ → ℕ → State → Between
unfolding step offset
until g left R base origin to [] i k s = record { at = i; state = s }
until g left R base origin to (x ∷ xs) i zero s =
    let w = step g left R x xs (base + i) (offset origin i) s in
    cond (leb to i) (record { at = i; state = s }) (until g left R base origin to xs (i + 1) (w.used - 1) w.to)
until g left R base origin to (x ∷ xs) i (suc k) s = until g left R base origin to xs (i + 1) k s

-- a reading from the start up to the first outermost step that begins at a place or behind it
unfoldable pub before : Given → ℕ → ℕ → Between
unfolding until run start
before g initial place = until g 4 (run g 3) 0 0 place g.input 0 0 (start initial)

-- the rest of a reading, from a state at a byte where an outermost step begins: the steps from there to the end, and the release of the marks
unfoldable pub rest : Given → ℕ → State → State
unfolding steps run writes release
rest g at s = writes release (steps g 4 (run g 3) 0 0 (drop at g.input) at 0 s)
