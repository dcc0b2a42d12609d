-- `arib_clean` meets its contract: the answer is that of `clean`, reported. Assumes nothing.
use Rattle.text.proofs.Counts.{cleaned}
use Rattle.reading.specs.WithoutBuffers.{lent}
use Rattle.text.proofs.arib_clean.Goals as goal

pub returns : goal.returns
returns c =
    let a = c.args in
    cleaned {c = lent a.cells.now a.initial a.width a.input.now} c.clean-answer.ensures c.report.ensures.number c.report.ensures.counted
