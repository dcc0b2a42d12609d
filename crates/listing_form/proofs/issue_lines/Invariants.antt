-- `issue_lines` meets its contract: the lines of the issues that are left are still to be put. Assumes nothing.
use Prim.Native.Nat.{◌+◌, ◌-◌, ◌*◌, ◌≤◌}
use lib.ListN.{drop}
use Rattle.lent.proofs.Putting.{Rest}
use Rattle.issues.specs.Issue.{numbers}
use Rattle.listing_form.specs.Lines.{issue_lines}
use Rattle.listing_form.proofs.issue_lines.Given as goal

abbrev pub invariant-loop-i : goal.invariant-loop-i
invariant-loop-i l =
    (l.next ≤ l.at + 21 * (l.i * numbers)) ×
    Rest l.initial.out l.at (issue_lines l.k l.issues) l.out l.next (issue_lines (l.k - l.i) (drop (l.i * numbers) l.issues))
