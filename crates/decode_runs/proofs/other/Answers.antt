-- `other` meets its contract: a private-use character is counted, and an ordinary one is not. Assumes nothing.
use Rattle.private_use.proofs.Laws.{count_private, count_ordinary}
use Rattle.decode_runs.proofs.Runs.{behind_letters}
use Rattle.decode_runs.proofs.other.Goals as goal

pub returns-in-Char-clause-run : goal.returns-in-Char-clause-run
returns-in-Char-clause-run c =
    let pre = c.requires.at_in_bounds in
    let w = rw c.in-Char.is at c.character-cell.ensures in
    behind_letters pre.0 pre.1 w.0 (count_ordinary 1 _ w.1) c.behind.ensures

pub returns-in-PrivateUse-clause-run : goal.returns-in-PrivateUse-clause-run
returns-in-PrivateUse-clause-run c =
    let pre = c.requires.at_in_bounds in
    let w = rw c.in-PrivateUse.is at c.character-cell.ensures in
    behind_letters pre.0 pre.1 w.0 (count_private 1 _ w.1) c.behind-in-PrivateUse.ensures
