-- `alike` meets its contract: what was looked at is the same so far. Assumes nothing.
use mathlib.Core.Path.{◌≡◌}
use lib.ListN.{take, drop}
use Rattle.catalogue_distinct.specs.Distinct.{same}
use Rattle.catalogue_distinct.proofs.alike.Given as goal

abbrev pub invariant-loop-i : goal.invariant-loop-i
invariant-loop-i l = l.all ≡ same (take l.i (drop l.a l.places)) (take l.i (drop l.b l.places))
