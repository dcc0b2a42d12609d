-- `remove` meets its contract: what was read and what was kept, turn by turn. Assumes nothing.
use mathlib.Core.Path.{sym, ◌∙◌}
use native.Mathlib.Omega.{arith}
use Rattle.utf8.proofs.Texts.{none_left}
use Rattle.key_text.proofs.Moving.{moved_none, Turn, turned, moved_all}
use Rattle.key_text.proofs.remove.Goals as goal
use Rattle.key_text.proofs.remove.Goals.{After-put-to}

-- the turn
read : (c : After-put-to) →
    Turn c.args.text.now c.loop-c.text c.loop-c.at c.loop-c.to c.in-Scalar.n c.put-to.new.text c.put-to.result
read c =
    turned _ _ _ _ _ _ c.loop-c.invariant (sym c.read.ensures ∙ c.in-Scalar.is) c.put-to.ensures

pub loop-c-init : goal.loop-c-init
loop-c-init c = moved_none _

pub put-to-requires : goal.put-to-requires
put-to-requires c =
    omega (arith, c.loop-c.invariant.order, c.loop-c.invariant.within, c.loop-c.invariant.long)

pub overflow_add-at : goal.overflow_add-at
overflow_add-at c =
    omega (arith, (read (goal.at.overflow_add-at c).After-put-to).within, c.well_formed)

pub loop-c-smaller : goal.loop-c-smaller
loop-c-smaller c = omega (arith, (read (goal.at.loop-c-smaller c).After-put-to).least, (read (goal.at.loop-c-smaller c).After-put-to).within)

pub loop-c-preserved : goal.loop-c-preserved
loop-c-preserved c = (read (goal.at.loop-c-preserved c).After-put-to).moved

pub returns : goal.returns
returns c = rw c.clear.ensures (moved_all _ _ _ _ c.loop-c.invariant (none_left _ _ c.read.ensures c.in_default.not-Scalar))
