-- `is_number` meets its contract: the digits that are left decide. Assumes nothing.
use mathlib.Core.Path.{sym, ap, ◌∙◌}
use Prim.Native.Nat.{ℕ, ◌+◌, ◌*◌, ◌≤◌}
use native.Mathlib.Omega.{arith}
use borrow.Author.Tests.{eqb-true, eqb-false}
use lib.ListN.{length, drop}
use Rattle.keys_form.proofs.Reading.{numbers, decimal_range, number_empty, number_long, number_start, number_over, number_end, number_not, number_next}
use Rattle.keys_form.proofs.parts.is_number.Goals as goal

pub returns-then-is_empty : goal.returns-then-is_empty
returns-then-is_empty c = number_empty _ (omega (arith, eqb-true _ _ (sym c.is_empty.ensures ∙ c.if-is_empty.true)))

pub returns-then-ds-gt10 : goal.returns-then-ds-gt10
returns-then-ds-gt10 c = number_long _ (omega arith) c.if-ds-gt10.true

pub loop-x-init : goal.loop-x-init
loop-x-init c =
    let e : 1 ≤ length c.args.ds.now = omega (arith, eqb-false _ _ (sym c.is_empty.ensures ∙ c.if-is_empty.false)) in
    (omega arith, number_start _ e c.if-ds-gt10.false)

pub returns-then-not-is_decimal : goal.returns-then-not-is_decimal
returns-then-not-is_decimal c = sym (c.loop-x.invariant.1 ∙ number_not _ _ _ c.loop-x-test.true (sym c.is_decimal.ensures ∙ c.if-not-is_decimal.true))

pub returns-then-v-gt4294967295 : goal.returns-then-v-gt4294967295
returns-then-v-gt4294967295 c =
    sym (c.loop-x.invariant.1 ∙ (number_next _ _ _ c.loop-x-test.true (sym c.is_decimal.ensures ∙ c.if-not-is_decimal.false) ∙ number_over _ _ (omega (arith, c.from.ensures))))

pub overflow_sub-x : goal.overflow_sub-x
overflow_sub-x c = omega (arith, decimal_range _ (sym c.is_decimal.ensures ∙ c.if-not-is_decimal.false))

pub loop-x-preserved : goal.loop-x-preserved
loop-x-preserved c = (
  omega arith,
  c.loop-x.invariant.1 ∙ (number_next _ _ _ c.loop-x-test.true (sym c.is_decimal.ensures ∙ c.if-not-is_decimal.false) ∙
      ap (λ (n : ℕ). numbers (c.loop-x.v * 10 + n) (drop (c.loop-x.x-index + 1) c.args.ds.now)) (sym c.from.ensures)),
)

pub returns : goal.returns
returns c = sym (c.loop-x.invariant.1 ∙ number_end _ _ _ c.loop-x-test.false c.loop-x.invariant.0)
