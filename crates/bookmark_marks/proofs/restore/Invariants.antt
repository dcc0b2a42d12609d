-- `bookmark_marks::restore` meets its contract. The loop's invariant: the marks gone over wait. Assumes nothing.
use Rattle.bookmark_marks.proofs.Restoring.{Restored}
use Rattle.bookmark_marks.proofs.restore.Given as goal

abbrev pub invariant-loop-mark : goal.invariant-loop-mark
invariant-loop-mark l = Restored l.initial.text l.l l.mark-index l.out l.text
