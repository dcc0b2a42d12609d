-- `encode_layer::lower` meets its contract: the floor after a state of cost b is dropped, or a state that reaches it: 0 for none, else one more.
use Rattle.encode_layer.proofs.Costs.{lower_none, lower_less, lower_same}
use Rattle.encode_layer.proofs.lower.Goals as goal

pub returns-then-floor-eq0 : goal.returns-then-floor-eq0
returns-then-floor-eq0 c = lower_none c.args.floor c.args.b c.if-floor-eq0.true

pub returns-then-b-floor : goal.returns-then-b-floor
returns-then-b-floor c = lower_less c.args.floor c.args.b c.if-floor-eq0.false c.if-b-floor.true

pub returns : goal.returns
returns c = lower_same c.args.floor c.args.b c.if-floor-eq0.false c.if-b-floor.false
