-- `steps` meets its contract. The loop's invariant: the steps so far are a stretch from `from` to i, and the buffers are as long as they were.
-- The measure is what is left of the body.
use Prim.Native.Nat.{◌-◌}
use lib.ListN.{length}
use Rattle.decode_steps.proofs.Way.{Way}
use Rattle.decode_steps.proofs.steps.Given as goal

abbrev pub invariant-loop-i : goal.invariant-loop-i
invariant-loop-i l = Way l.cells l.o.base l.o.origin l.b l.o.to l.from l.initial.s l.initial.text l.initial.issues l.i l.s l.text l.issues

abbrev pub decreases-loop-i : goal.decreases-loop-i
decreases-loop-i l = length l.b - l.i
