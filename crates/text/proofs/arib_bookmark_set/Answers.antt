-- `arib_bookmark_set` meets its contract: the answer is that of `set`, reported. Assumes nothing.
use Rattle.text.proofs.Counts.{sets_to}
use Rattle.reading.specs.WithoutBuffers.{lent}
use Rattle.bookmark.specs.Promises.{setting}
use Rattle.text.proofs.arib_bookmark_set.Goals as goal

pub returns : goal.returns
returns c =
    let a = c.args in
    let lends = setting (lent a.cells.now a.initial a.width a.input.now) a.place a.name a.store.now in
    sets_to {c = lends} c.set-answer.ensures c.report.ensures.number c.report.ensures.counted
