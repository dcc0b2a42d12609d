-- `arib_catalogue_add` meets its contract: the answer is that of `add`, reported. Assumes nothing.
use Rattle.text.proofs.Counts.{adds}
use Rattle.key.specs.Promises as keys
use Rattle.catalogue.specs.Promises.{lent}
use Rattle.text.proofs.arib_catalogue_add.Goals as goal

pub returns : goal.returns
returns c =
    let a = c.args in
    let k = keys.lent a.cells.now a.initial a.width a.title.now a.key.now in
    adds {c = lent k a.number a.store.now} c.add-answer.ensures c.report.ensures.number c.report.ensures.counted
