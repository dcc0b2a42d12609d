-- `copy` meets its contract: a number a turn. Assumes nothing.
use Prim.Native.Nat.{◌+◌}
use mathlib.Core.Path.{◌≡◌}
use lib.ListN.{length, drop}
use lib.Seq.{slice}
use Rattle.lent.proofs.Putting.{Rest}
use Rattle.catalogue_distinct.proofs.copy.Given as goal

abbrev pub invariant-loop-i : goal.invariant-loop-i
invariant-loop-i l = (length l.to ≡ length l.initial.to) × Rest l.initial.to l.at (slice l.lo l.hi l.from) l.to (l.at + l.i) (drop l.i (slice l.lo l.hi l.from))
