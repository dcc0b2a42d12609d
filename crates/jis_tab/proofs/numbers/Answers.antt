-- `numbers` meets its contract: the numbers passed are those of the front of the bytes. Assumes nothing.
use native.Mathlib.Omega.{arith}
use Rattle.jis_tab.proofs.Table.{part_none, part_turn, part_all}
use Rattle.jis_tab.proofs.numbers.Goals as goal

pub loop-i-init : goal.loop-i-init
loop-i-init c = part_none _ _

pub loop-i-preserved : goal.loop-i-preserved
loop-i-preserved c = part_turn _ _ _ _ _ c.loop-i.invariant (omega (arith, c.loop-i.invariant.long)) c.number.ensures

pub returns : goal.returns
returns c = part_all _ _ _ _ c.loop-i.invariant (omega (arith, c.loop-i.invariant.long))
