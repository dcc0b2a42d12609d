-- `plus_one` meets its contract. Assumes nothing.
use Rattle.bookmark_numbers.proofs.Putting.{plus_none, plus_some}
use Rattle.bookmark_numbers.proofs.plus_one.Goals as goal

pub returns-then-start-eq0 : goal.returns-then-start-eq0
returns-then-start-eq0 c = plus_none _ c.if-start-eq0.true

pub returns-else-start-eq0 : goal.returns-else-start-eq0
returns-else-start-eq0 c = plus_some _ c.if-start-eq0.false
