-- `stop_shift` meets its contract: what stops the steps, or why they pass.
use mathlib.Core.Path.{sym, ◌∙◌}
use native.Mathlib.Omega.{arith}
use Rattle.decode_steps.proofs.Stops.{never, passes_shift}
use Rattle.decode_steps.proofs.stop_shift.Goals as goal

pub returns-then-sets-e-ne-MACRO_SET : goal.returns-then-sets-e-ne-MACRO_SET
returns-then-sets-e-ne-MACRO_SET c =
    let a = c.args in
    passes_shift a.b.now a.i a.s a.e c.requires.2 (λ s l g. c.if-sets-e-ne-MACRO_SET.true s)

pub returns-then-i-b : goal.returns-then-i-b
returns-then-i-b c =
    let a = c.args in
    passes_shift a.b.now a.i a.s a.e c.requires.2 (λ s l g. omega (arith, c.if-i-b.true))

pub returns-then-is_graphic : goal.returns-then-is_graphic
returns-then-is_graphic c =
    record {
      within = c.if-i-b.false;
      shift = c.requires.2;
      behind = sym c.is_graphic.ensures ∙ c.if-is_graphic.true;
      macros = c.if-sets-e-ne-MACRO_SET.false;
    }

pub returns-else-is_graphic : goal.returns-else-is_graphic
returns-else-is_graphic c =
    let a = c.args in
    passes_shift a.b.now a.i a.s a.e c.requires.2 (λ s l g. never g (sym c.is_graphic.ensures ∙ c.if-is_graphic.false))
