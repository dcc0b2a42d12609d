-- `arib_decode` meets its contract: the answer is that of `decode_with`, reported. Assumes nothing.
use Rattle.text.proofs.Counts.{decodes}
use Rattle.decode.specs.Answers.{lent}
use Rattle.text.proofs.arib_decode.Goals as goal

pub returns : goal.returns
returns c =
    let a = c.args in
    let lends = lent a.cells.now a.initial a.width a.input.now a.text.now a.issues.now in
    decodes {c = lends} c.decode_with-answer.ensures c.report.ensures.number c.report.ensures.counted
