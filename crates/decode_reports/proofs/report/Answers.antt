-- `report` meets its contract. Assumes nothing.
use Rattle.decode_reports.proofs.Moving.{moved_issue}
use Rattle.decode_reports.proofs.report.Goals as goal

pub returns : goal.returns
returns c = λ t. moved_issue _ (c.issue-core.ensures t)
