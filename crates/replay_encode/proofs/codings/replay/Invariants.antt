-- `replay` is safe and ends: each turn takes one more case, which starts in the file. Assumes nothing.
use Prim.Native.Nat.{◌-◌, ◌≤◌}
use lib.ListN.{length}
use Rattle.replay_encode.proofs.codings.replay.Given as goal

abbrev pub invariant-loop : goal.invariant-loop
invariant-loop l = l.at ≤ length l.file

abbrev pub decreases-loop : goal.decreases-loop
decreases-loop l = l.cases - l.counter
