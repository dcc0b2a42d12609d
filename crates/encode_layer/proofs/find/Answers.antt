-- `encode_layer::find` meets its contract: the loop's invariant: a node that has the state is come to from the node p, before the last. Assumes nothing.
use native.Mathlib.Omega.{arith}
use Rattle.encode_layer.proofs.Chains.{sought_start, sought_on, found, not_found}
use Rattle.encode_layer.proofs.find.Goals as goal

pub loop-p-init : goal.loop-p-init
loop-p-init c = (omega arith, sought_start _ _ _ _ _)

pub returns-then-store-at : goal.returns-then-store-at
returns-then-store-at c = found _ _ _ _ _ _ (omega arith) c.if-store-at.true

pub loop-p-preserved : goal.loop-p-preserved
loop-p-preserved c = (omega arith, sought_on _ _ _ _ _ _ _ c.if-store-at.false c.loop-p.invariant.1)

pub returns : goal.returns
returns c = not_found _ _ _ _ _ _ _ c.loop-p-test.false c.loop-p.invariant.1
