-- `encode_tokens::baseless` meets its contract: from a place on, after a base or not, the first mark without a base is that of the whole text. Assumes nothing.
use mathlib.Core.Path.{sym, ap, ◌∙◌}
use mathlib.Core.Bool.{Bool, false}
use Prim.Native.Nat.{◌+◌}
use native.Mathlib.Omega.{arith}
use Rattle.tables.proofs.MarkLaws.{tested}
use Rattle.coding.specs.Tokens.{baseless}
use Rattle.encode_tokens.specs.Steps.{place_of_mark}
use Rattle.encode_tokens.proofs.Texts.{from, from_first, from_end, read_as, based_mark, baseless_mark, no_mark}
use Rattle.encode_tokens.proofs.baseless.Goals as goal
use Rattle.encode_tokens.proofs.baseless.Goals.{then-is_non_spacing+else-not-base, else-is_non_spacing}

pub loop-c-init : goal.loop-c-init
loop-c-init c = (omega arith, ap (baseless false) (from_first _))

pub returns : goal.returns
unfolding baseless
returns c = sym (ap place_of_mark (c.loop-c.invariant.1 ∙ ap (baseless c.loop-c.base) (from_end _ _ c.read.ensures c.in_default.not-Scalar)))

pub overflow_add-at : goal.overflow_add-at
overflow_add-at c =
    let r = read_as _ _ _ _ c.loop-c.invariant.0 (sym c.read.ensures ∙ c.in-Scalar.is) in
    omega (arith, r.within, c.well_formed)

pub loop-c-smaller : goal.loop-c-smaller
loop-c-smaller c =
    let r = read_as _ _ _ _ c.loop-c.invariant.0 (sym c.read.ensures ∙ c.in-Scalar.is) in
    omega (arith, r.least, r.within)

pub loop-c-preserved : goal.loop-c-preserved
loop-c-preserved c =
    let r = read_as _ _ _ _ c.loop-c.invariant.0 (sym c.read.ensures ∙ c.in-Scalar.is) in (
      r.within,
      c.loop-c.invariant.1 ∙ (ap (baseless c.loop-c.base) r.tokens ∙ elim c.if-is_non_spacing.branch [
        | then-is_non_spacing+else-not-base w ↦
            based_mark _ _ _ c.loop-c.base w.if-not-base.false (tested _ c.is_non_spacing.ensures w.if-is_non_spacing.true)
            ∙ ap (λ (b : Bool). baseless b (from c.args.text.now (c.loop-c.at + c.in-Scalar.size))) (sym w.base-is)
        | else-is_non_spacing w ↦
            no_mark _ _ _ c.loop-c.base (tested _ c.is_non_spacing.ensures w.if-is_non_spacing.false)
            ∙ ap (λ (b : Bool). baseless b (from c.args.text.now (c.loop-c.at + c.in-Scalar.size))) (sym w.base-is)
      ]),
    )

pub returns-then-not-base : goal.returns-then-not-base
returns-then-not-base c =
    let r = read_as _ _ _ _ c.loop-c.invariant.0 (sym c.read.ensures ∙ c.in-Scalar.is) in
    sym (ap place_of_mark (c.loop-c.invariant.1 ∙ (ap (baseless c.loop-c.base) r.tokens ∙
    baseless_mark _ _ _ c.loop-c.base c.if-not-base.true (tested _ c.is_non_spacing.ensures c.if-is_non_spacing.true))))
