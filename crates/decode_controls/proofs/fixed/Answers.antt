-- `fixed` meets its contract. Assumes nothing.
use mathlib.Core.Path.{refl, sym, ap, ◌∙◌}
use native.Mathlib.Omega.{arith}
use Rattle.control.specs.Controls.{params_of}
use Rattle.decode_controls.proofs.Effects.{reads_of, bounded, reads_nothing}
use Rattle.decode_controls.proofs.Cases.{fixed_all, fixed_cut, fixed_undefined}
use Rattle.decode_controls.specs.Controls.{step_of}
use Rattle.decode_controls.proofs.fixed.Goals as goal

pub returns-in-Some : goal.returns-in-Some
returns-in-Some c =
    let a = c.args in
    reads_nothing _ (omega arith) (omega arith)
    (λ at s. fixed_all a.b.now a.i at s c.requires _ (sym c.fixed_params.ensures ∙ ap params_of c.in-Some.is) c.if-n-b.true)

pub returns-in-Some-2 : goal.returns-in-Some-2
returns-in-Some-2 c =
    let a = c.args in
    c.cut.ensures _ (λ place at s. fixed_cut a.b.now a.i at s c.requires _ (sym c.fixed_params.ensures ∙ ap params_of c.in-Some.is) c.if-n-b.false)

pub returns-in-None : goal.returns-in-None
unfolding step_of
returns-in-None c =
    let a = c.args in
    reads_of _ _ (bounded refl refl) (omega arith) (omega arith)
    (λ place at s. fixed_undefined a.b.now a.i at s c.requires (sym c.fixed_params.ensures ∙ ap params_of c.in-None.is))
