-- `issue` meets its contract. Assumes nothing.
use Rattle.decode_reports.proofs.Moving.{reported}
use Rattle.decode_reports.proofs.issue.Goals as goal

pub returns : goal.returns
returns c =
    λ t. reported c.args.s c.args.at c.args.kind c.issue-after.result t c.args.issues.now _ c.requires (c.issue-after.ensures t)
