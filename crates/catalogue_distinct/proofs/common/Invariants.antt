-- `common` meets its contract: the records are alike up to the byte that the loop has come to. Assumes nothing.
use Prim.Native.Nat.{◌-◌}
use Rattle.catalogue_distinct.specs.Runs.{record_at}
use Rattle.catalogue_distinct.specs.Promises.{Alike}
use Rattle.catalogue_distinct.proofs.common.Given as goal

abbrev pub invariant-loop-i : goal.invariant-loop-i
invariant-loop-i l = Alike (record_at l.places l.p) (record_at l.places l.q) l.from l.i

abbrev pub decreases-loop-i : goal.decreases-loop-i
decreases-loop-i l = 256 - l.i
