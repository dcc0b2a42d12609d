-- `arib_key` meets its contract: the answer is that of `key`, reported. Assumes nothing.
use Rattle.text.proofs.Counts.{keyed}
use Rattle.key.specs.Promises.{lent}
use Rattle.text.proofs.arib_key.Goals as goal

pub returns : goal.returns
returns c =
    let a = c.args in
    let lends = lent a.cells.now a.initial a.width a.input.now a.buffer.now in
    keyed {c = lends} c.key-answer.ensures c.report.ensures.number c.report.ensures.counted
