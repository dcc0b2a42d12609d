-- `bookmark_marks::count` meets its contract. The loop's invariant: the digits counted and those left are all. Assumes nothing.
use Rattle.bookmark_marks.proofs.Digits.{Counted}
use Rattle.bookmark_marks.proofs.count.Given as goal

abbrev pub invariant-loop-n : goal.invariant-loop-n
invariant-loop-n l = Counted l.waiting l.w l.n
