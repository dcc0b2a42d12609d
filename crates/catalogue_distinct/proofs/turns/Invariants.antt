-- `turns` meets its contract: where the merge stands after each turn. Assumes nothing.
use Prim.Native.Nat.{◌+◌, ◌-◌}
use Rattle.catalogue_distinct.specs.Promises.{Stands}
use Rattle.catalogue_distinct.proofs.turns.Given as goal

abbrev pub invariant-loop-left : goal.invariant-loop-left
invariant-loop-left l = Stands l.places l.initial.runs l.runs l.spare l.half l.a l.end l.left l.right l.put

abbrev pub decreases-loop-left : goal.decreases-loop-left
decreases-loop-left l = (l.a - l.left) + (l.end - l.right)
