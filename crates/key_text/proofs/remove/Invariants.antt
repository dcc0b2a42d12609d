-- `remove` meets its contract: what was read and what was kept, turn by turn. Assumes nothing.
use Prim.Native.Nat.{◌-◌}
use lib.ListN.{length}
use Rattle.key_text.proofs.Moving.{Moved}
use Rattle.key_text.proofs.remove.Given as goal

abbrev pub invariant-loop-c : goal.invariant-loop-c
invariant-loop-c l = Moved l.initial.text l.text l.at l.to

abbrev pub decreases-loop-c : goal.decreases-loop-c
decreases-loop-c l = length l.initial.text - l.at
