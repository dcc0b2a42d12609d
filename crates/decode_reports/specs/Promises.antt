-- What is promised of the steps of controls, besides the step.
use Rattle.std.specs.Prelude.{ℕ, ◌≡◌, List}
use Rattle.issues.specs.declared.IssueKind.{IssueKind}
use Rattle.reading.specs.State.{Given, State, Step, issue}
use Rattle.decode_state.specs.declared.Core.{Core}
use Rattle.decode_state.specs.declared.Stepped.{Stepped}
use Rattle.decode_state.specs.Promises.{whole, Does, Moves, Kept}

-- an issue is reported, whatever the macros
pub record Reported (at : ℕ) (kind : IssueKind) (c : Core) (t i : List ℕ) (r : Core) (i' : List ℕ) : Type 0 where
  pub does : (g : Given) (starts lens : List ℕ) → Does g (issue at kind) (whole c starts lens) t i (whole r starts lens) t i'
  pub kept : Kept 1 c r

-- a step of n bytes as f goes
pub record Moved (n : ℕ) (f : State → Step) (c : Core) (t i : List ℕ) (r : Stepped) (t' i' : List ℕ) : Type 0 where
  pub moves : (g : Given) → Moves g f c t i r.used r.core t' i'
  pub used : r.used ≡ n
  pub kept : Kept 1 c r.core
