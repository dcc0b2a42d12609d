-- `hexadecimal` meets its contract: the digits of the bytes that are left are still to be written. Assumes nothing.
use mathlib.Core.Path.{ap, ◌∙◌}
use native.Mathlib.Omega.{arith}
use Rattle.lent.proofs.Putting.{rest_all, rest_none}
use Rattle.ascii.specs.Ascii.{digit}
use Rattle.ascii.proofs.Digits.{hexadecimal_turn, hexadecimal_none}
use Rattle.ascii.proofs.hexadecimal.Goals as goal

pub loop-b-init : goal.loop-b-init
loop-b-init c = (omega arith, rest_all _ _ _)

pub loop-b-preserved : goal.loop-b-preserved
loop-b-preserved c = (
  omega arith,
  hexadecimal_turn _ _ c.loop-b.invariant.1 c.loop-b-test.true
      (c.digit.ensures ∙ ap digit c.from.ensures) (c.digit-in-loop-b.ensures ∙ ap digit c.from-in-loop-b.ensures) c.put.ensures c.put-in-loop-b.ensures,
)

pub returns : goal.returns
returns c = rest_none c.loop-b.invariant.1 (hexadecimal_none _ _ c.loop-b-test.false)
