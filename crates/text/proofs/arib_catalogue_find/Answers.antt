-- `arib_catalogue_find` meets its contract: the answer is that of `find`, reported. Assumes nothing.
use Rattle.text.proofs.Counts.{finds}
use Rattle.text.proofs.arib_catalogue_find.Goals as goal

pub returns : goal.returns
returns c =
    finds {store = c.args.store.now} {k = c.args.key.now} c.find-answer.ensures c.report.ensures.number c.report.ensures.counted
