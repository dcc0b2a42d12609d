-- `arib_encode` meets its contract: the answer is that of `encode_with`, reported. Assumes nothing.
use Rattle.text.proofs.Counts.{coded}
use Rattle.encode.specs.Answers.{lent}
use Rattle.text.proofs.arib_encode.Goals as goal

pub returns : goal.returns
returns c =
    let a = c.args in
    let lends = lent a.cells.now a.initial a.width a.text.now a.store.now a.coding.now in
    coded {c = lends} c.encode_with-answer.ensures c.report.ensures.number c.report.ensures.counted
