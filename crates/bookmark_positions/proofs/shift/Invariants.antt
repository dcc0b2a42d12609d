-- `shift` meets its contract. The invariant: k issues are moved. Assumes nothing.
use mathlib.Core.Path.{◌≡◌}
use Rattle.bookmark_positions.specs.Positions.{moved}
use Rattle.bookmark_positions.proofs.shift.Given as goal

abbrev pub invariant-loop-k : goal.invariant-loop-k
invariant-loop-k l = l.issues ≡ moved l.k l.by l.initial.issues
