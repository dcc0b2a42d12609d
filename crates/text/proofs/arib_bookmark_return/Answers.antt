-- `arib_bookmark_return` meets its contract: the answer is that of `return_to`, reported. Assumes nothing.
use Rattle.text.proofs.Counts.{returns_to}
use Rattle.reading.specs.WithoutBuffers.{lent}
use Rattle.bookmark.specs.Promises.{returning}
use Rattle.text.proofs.arib_bookmark_return.Goals as goal

pub returns : goal.returns
returns c =
    let a = c.args in
    let lends = returning (lent a.cells.now a.initial a.width a.input.now) a.name a.store.now a.text.now a.issues.now in
    returns_to {c = lends} c.return_to-answer.ensures c.report.ensures.number c.report.ensures.counted
