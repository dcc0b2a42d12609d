-- `word` meets its contract: the bytes that are left are still to be written. Assumes nothing.
use Prim.Native.Nat.{◌+◌}
use lib.ListN.{drop}
use Rattle.lent.proofs.Putting.{Rest}
use Rattle.ascii.proofs.word.Given as goal

abbrev pub invariant-loop-i : goal.invariant-loop-i
invariant-loop-i l = Rest l.initial.out l.at l.w l.out (l.at + l.i) (drop l.i l.w)
