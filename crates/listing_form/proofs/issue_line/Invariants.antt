-- `issue_line` meets its contract: the numbers behind the first that are left are still to be put. Assumes nothing.
use Prim.Native.Nat.{◌+◌, ◌*◌, ◌≤◌}
use lib.ListN.{drop}
use Rattle.lent.proofs.Putting.{Rest}
use Rattle.listing_form.specs.Lines.{others}
use Rattle.listing_form.proofs.issue_line.Given as goal

abbrev pub invariant-loop-i : goal.invariant-loop-i
invariant-loop-i l =
    (l.next + 1 ≤ l.at + 21 * l.i) ×
    Rest l.initial.out l.initial.next (others (drop 1 l.issue)) l.out l.next (others (drop l.i l.issue))
