-- `arib_unknown_escape` meets its contract, from the part that `unknown_escape` gives. Assumes nothing.
use Rattle.text.proofs.Counts.{escapes}
use Rattle.text.proofs.arib_unknown_escape.Goals as goal

pub returns : goal.returns
returns c =
    escapes c.unknown_escape-escape.ensures c.escape_start-from.ensures c.report.ensures
