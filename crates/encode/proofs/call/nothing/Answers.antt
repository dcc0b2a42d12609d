-- `encode::call::nothing` meets its contract: a coding of no byte always fits. Assumes nothing.
use Rattle.encode.proofs.Outcomes.{wrote_nothing}
use Rattle.encode.proofs.call.nothing.Goals as goal

pub returns : goal.returns
returns c = λ k o g. wrote_nothing k o g c.zero.ensures
