-- `is_line` meets its contract. Assumes nothing.
use mathlib.Core.Path.{sym, ◌∙◌}
use native.Mathlib.Omega.{arith}
use lib.Seq.{length-take-le}
use Rattle.keys_form.proofs.Reading.{line_no_tab, line_no_number, line_hex}
use Rattle.keys_form.proofs.parts.is_line.Goals as goal

pub returns-then-tab-line : goal.returns-then-tab-line
returns-then-tab-line c = line_no_tab _ _ c.requires c.if-tab-line.true

pub slice_bounds-is_number-end : goal.slice_bounds-is_number-end
slice_bounds-is_number-end c = sym (length-take-le _ _ (omega arith))

pub returns-then-not-is_number : goal.returns-then-not-is_number
returns-then-not-is_number c =
    line_no_number _ _ c.requires c.if-tab-line.false (sym c.is_number.ensures ∙ c.if-not-is_number.true)

pub overflow_add-tab : goal.overflow_add-tab
overflow_add-tab c = omega arith

pub slice_bounds-is_hex-count : goal.slice_bounds-is_hex-count
slice_bounds-is_hex-count c = omega arith

pub slice_bounds-is_hex-start : goal.slice_bounds-is_hex-start
slice_bounds-is_hex-start c = omega arith

pub slice_bounds-is_hex-end : goal.slice_bounds-is_hex-end
slice_bounds-is_hex-end c = omega arith

pub returns : goal.returns
returns c =
    c.is_hex.ensures ∙ line_hex _ _ c.requires c.if-tab-line.false (sym c.is_number.ensures ∙ c.if-not-is_number.false)
