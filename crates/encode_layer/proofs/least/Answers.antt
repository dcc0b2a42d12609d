-- `encode_layer::least` meets its contract: the layer's least cost, 0 where it has no node.
use mathlib.Core.Path.{◌≡◌}
use Prim.Native.Nat.{◌-◌}
use native.Mathlib.Omega.{arith}
use Rattle.encode_layer.proofs.Costs.{least_none, least_first, least_less, least_same}
use Rattle.encode_layer.proofs.least.Goals as goal

pub returns-then-count-eq0 : goal.returns-then-count-eq0
returns-then-count-eq0 c = least_none c.args.store.now c.args.from c.args.count c.requires c.if-count-eq0.true

pub loop-i-init : goal.loop-i-init
loop-i-init c = (
  omega arith,
  least_first c.args.store.now c.args.from c.args.count c.requires
      (c.args.count - 1) (omega arith),
)

pub loop-i-preserved-then-cost-best : goal.loop-i-preserved-then-cost-best
loop-i-preserved-then-cost-best c = (
  omega arith,
  least_less c.args.store.now c.args.from c.args.count c.requires c.loop-i.i (c.loop-i.i - 1)
      c.loop-i.best (omega arith) c.loop-i.invariant.0 c.loop-i.invariant.1 c.if-cost-best.true,
)

pub loop-i-preserved : goal.loop-i-preserved
loop-i-preserved c = (
  omega arith,
  least_same c.args.store.now c.args.from c.args.count c.requires c.loop-i.i (c.loop-i.i - 1)
      c.loop-i.best (omega arith) c.loop-i.invariant.0 c.loop-i.invariant.1 c.if-cost-best.false,
)

pub returns : goal.returns
returns c = let z : c.loop-i.i ≡ 0 = omega arith in rw z at c.loop-i.invariant.1
