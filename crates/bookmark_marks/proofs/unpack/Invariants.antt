-- `bookmark_marks::unpack` meets its contract. The loop's invariant: the digits taken stand in their places. Assumes nothing.
use Rattle.bookmark_marks.proofs.Unpacking.{Taken}
use Rattle.bookmark_marks.proofs.unpack.Given as goal

abbrev pub invariant-loop-k : goal.invariant-loop-k
invariant-loop-k l = Taken l.waiting l.marks l.w l.k
