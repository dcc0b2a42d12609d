-- `offset` meets its contract, by the origin.
use Rattle.decode_steps.proofs.Branches.{offset_own, offset_caller}
use Rattle.decode_steps.proofs.offset.Goals as goal

pub returns-then-origin-eq0 : goal.returns-then-origin-eq0
returns-then-origin-eq0 c = offset_own c.args.origin c.args.i c.if-origin-eq0.true

pub returns-else-origin-eq0 : goal.returns-else-origin-eq0
returns-else-origin-eq0 c = offset_caller c.args.origin c.args.i c.if-origin-eq0.false
