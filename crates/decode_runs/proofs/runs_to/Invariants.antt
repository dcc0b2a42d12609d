-- `runs_to` meets its contract. The invariant: what was run so far. Assumes nothing.
use Prim.Native.Nat.{◌-◌}
use lib.ListN.{length}
use Rattle.decode_runs.proofs.Runs.{Running}
use Rattle.decode_runs.proofs.runs_to.Given as goal

abbrev pub invariant-loop-reached : goal.invariant-loop-reached
invariant-loop-reached l =
    Running l.cells l.b l.end l.initial.reached.at l.to l.fits l.annex l.initial.settings l.initial.reached.len l.initial.reached.private_use l.initial.text
    l.reached.at l.settings l.reached.len l.reached.private_use l.text

abbrev pub decreases-loop-reached : goal.decreases-loop-reached
decreases-loop-reached l = length l.b - l.reached.at
