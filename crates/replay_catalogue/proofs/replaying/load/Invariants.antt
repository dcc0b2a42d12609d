-- `load` is safe and ends: each turn fills one more byte. Assumes nothing.
use Prim.Native.Nat.{◌-◌}
use mathlib.Core.Path.{◌≡◌}
use lib.ListN.{length}
use Rattle.replay_catalogue.proofs.replaying.load.Given as goal

abbrev pub invariant-loop-i : goal.invariant-loop-i
invariant-loop-i l = length l.store ≡ length l.initial.store

abbrev pub decreases-loop-i : goal.decreases-loop-i
decreases-loop-i l = length l.initial.store - l.i
