-- `controls` meets its contract. The invariant: the controls so far. Assumes nothing.
use Prim.Native.Nat.{◌-◌}
use Rattle.decode_settings.specs.Promises.{Controls}
use Rattle.decode_settings.proofs.controls.Given as goal

abbrev pub invariant-loop-i : goal.invariant-loop-i
invariant-loop-i l = Controls l.b l.to l.from l.initial.settings l.i l.settings

abbrev pub decreases-loop-i : goal.decreases-loop-i
decreases-loop-i l = l.to - l.i
