-- `is_hex` meets its contract: the digits that are left decide. Assumes nothing.
use mathlib.Core.Path.{sym, ◌∙◌}
use Rattle.keys_form.proofs.Reading.{hex_long, hex_odd, hex_start, hex_end, hex_not, hex_next, hex_is}
use Rattle.keys_form.proofs.parts.is_hex.Goals as goal

pub returns-then-ds-gt131070 : goal.returns-then-ds-gt131070
returns-then-ds-gt131070 c = hex_long _ c.if-ds-gt131070.true

pub returns-then-ds-ne0 : goal.returns-then-ds-ne0
returns-then-ds-ne0 c = hex_odd _ c.if-ds-gt131070.false c.if-ds-ne0.true

pub loop-x-init : goal.loop-x-init
loop-x-init c = hex_start _ c.if-ds-gt131070.false c.if-ds-ne0.false

pub returns-then-is_none : goal.returns-then-is_none
returns-then-is_none c =
    sym (c.loop-x.invariant ∙ hex_not _ _ c.loop-x-test.true (sym (hex_is _ c.hex_value.ensures) ∙ c.if-is_none.ensures))

pub loop-x-preserved : goal.loop-x-preserved
loop-x-preserved c =
    c.loop-x.invariant ∙ hex_next _ _ c.loop-x-test.true (sym (hex_is _ c.hex_value.ensures) ∙ c.if-is_none.ensures)

pub returns : goal.returns
returns c = sym (c.loop-x.invariant ∙ hex_end _ _ c.loop-x-test.false)
