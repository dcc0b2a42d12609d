-- `run_from` meets its contract. The invariant: what is spelt so far. Assumes nothing.
use Prim.Native.Nat.{◌-◌}
use Rattle.decode_runs.proofs.Runs.{Spelt, flag}
use Rattle.decode_runs.proofs.run_from.Given as goal

abbrev pub invariant-loop-i : goal.invariant-loop-i
invariant-loop-i g l = Spelt (flag g.row.FITS) l.cells l.b l.to l.initial.i l.sets l.initial.m l.from.private_use l.initial.text l.i l.m l.text

abbrev pub decreases-loop-i : goal.decreases-loop-i
decreases-loop-i g l = l.to - l.i
