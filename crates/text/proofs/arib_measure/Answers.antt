-- `arib_measure` meets its contract: the answer is that of `measure`, reported. Assumes nothing.
use Rattle.text.proofs.Counts.{measured}
use Rattle.reading.specs.WithoutBuffers.{lent}
use Rattle.text.proofs.arib_measure.Goals as goal

pub returns : goal.returns
returns c =
    let a = c.args in
    measured {c = lent a.cells.now a.initial a.width a.input.now} c.measure-answer.ensures c.report.ensures.number c.report.ensures.counted
