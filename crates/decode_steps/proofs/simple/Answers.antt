-- `simple` meets its contract, by the byte. Assumes nothing.
use mathlib.Core.Path.{◌≡◌, refl, sym}
use mathlib.Core.Bool.{false}
use mathlib.Core.Logic.{inl, inr, ⊎_elim}
use native.Mathlib.Omega.{arith}
use lib.ListN.{get_or}
use Rattle.reading.specs.Characters.{is_gl, is_gr}
use Rattle.decode_controls.proofs.Bytes.{gl_in, gl_below, gl_above, gr_in, gr_below, gr_above}
use Rattle.decode_steps.proofs.Moving.{took_over, took_as}
use Rattle.decode_steps.proofs.Branches.{graphic_left, graphic_right, set_left, set_right, step_left, step_right, step_space, step_newline}
use Rattle.decode_steps.proofs.Dispatch.{step_shift}
use Rattle.decode_steps.proofs.simple.Goals as goal

pub single_shift-requires : goal.single_shift-requires
single_shift-requires c =
    let p = c.requires in
    record { may_take = p.may_take; i_in_bounds = (p.i_in_bounds.0, omega arith, λ l g s. p.passes.shift 2 (inl (c.in-25.is, refl)) s l g) }

pub single_shift-requires-in-29 : goal.single_shift-requires-in-29
single_shift-requires-in-29 c =
    let p = c.requires in
    record { may_take = p.may_take; i_in_bounds = (p.i_in_bounds.0, omega arith, λ l g s. p.passes.shift 3 (inr (c.in-29.is, refl)) s l g) }

pub graphic-requires : goal.graphic-requires
graphic-requires c =
    let a = c.args in
    let p = c.requires in
    let x = get_or a.b.now a.p.i 0 in
    let k = gl_in x (omega arith) (omega arith) in
    record { i_in_bounds = (p.i_in_bounds.0, p.may_take.gl, graphic_left x k, p.passes.left k); may_take = p.may_take }

pub graphic-requires-in-161-to-254 : goal.graphic-requires-in-161-to-254
graphic-requires-in-161-to-254 c =
    let a = c.args in
    let p = c.requires in
    let x = get_or a.b.now a.p.i 0 in
    let k = gr_in x (omega arith) (omega arith) in
    record { i_in_bounds = (p.i_in_bounds.0, p.may_take.gr, graphic_right x (gl_above x (omega arith)) k, p.passes.right k); may_take = p.may_take }

pub control-requires : goal.control-requires
control-requires c =
    let a = c.args in
    let p = c.requires in
    let x = get_or a.b.now a.p.i 0 in
    let came = c.in_default.branch-raw in
    let other = c.in_default-1.rest in
    let l : is_gl x ≡ false = ⊎_elim (λ w. gl_below x (omega arith)) (⊎_elim (λ w. gl_above x (omega arith)) (λ w. gl_above x (omega arith))) came in
    let r : is_gr x ≡ false = ⊎_elim (λ w. gr_below x (omega arith)) (⊎_elim (λ w. gr_below x (omega arith)) (λ w. gr_above x (omega arith))) came in
    record { i_in_bounds = (p.i_in_bounds.0, p.i_in_bounds.1, record { gl = l; gr = r; space = other.0.0.0.1; newline = other.0.0.1; ss2 = other.0.1; ss3 = other.1; macro = p.passes.command }); may_take = p.may_take }

pub returns-in-32 : goal.returns-in-32
returns-in-32 c =
    let a = c.args in
    let inside = c.requires.i_in_bounds.0 in
    λ left R.
    took_as (λ g starts lens t₀ i₀ s h. step_space g left R _ _ _ _ s c.in-32.is) (c.space.ensures a.cells.now a.b.now a.issues.now a.p.i inside)

pub returns-in-13 : goal.returns-in-13
returns-in-13 c =
    let a = c.args in
    let inside = c.requires.i_in_bounds.0 in
    λ left R.
    took_as (λ g starts lens t₀ i₀ s h. step_newline g left R _ _ _ _ s c.in-13.is) (c.newline.ensures a.cells.now a.b.now a.p.i inside)

pub returns-in-25 : goal.returns-in-25
returns-in-25 c =
    λ left R. took_as (λ g starts lens t₀ i₀ s h. sym (step_shift g left R _ _ _ _ s 2 (inl (c.in-25.is, refl)))) (c.single_shift.ensures left R)

pub returns-in-29 : goal.returns-in-29
returns-in-29 c =
    λ left R. took_as (λ g starts lens t₀ i₀ s h. sym (step_shift g left R _ _ _ _ s 3 (inr (c.in-29.is, refl)))) (c.single_shift-in-29.ensures left R)

pub returns-in-33-to-126 : goal.returns-in-33-to-126
returns-in-33-to-126 c =
    let a = c.args in
    let x = get_or a.b.now a.p.i 0 in
    let k = gl_in x (omega arith) (omega arith) in
    λ left R. took_as (λ g starts lens t₀ i₀ s h. step_left g left R _ _ _ _ s _ (set_left h) k) (c.graphic.ensures left R)

pub returns-in-161-to-254 : goal.returns-in-161-to-254
returns-in-161-to-254 c =
    let a = c.args in
    let x = get_or a.b.now a.p.i 0 in
    let k = gr_in x (omega arith) (omega arith) in
    let n = gl_above x (omega arith) in
    λ left R. took_as (λ g starts lens t₀ i₀ s h. step_right g left R _ _ _ _ s _ (set_right h) n k) (c.graphic-in-161-to-254.ensures left R)

pub returns-in_default : goal.returns-in_default
returns-in_default c =
    let a = c.args in
    λ left R. took_over (λ g. c.control.ensures g left R a.text.now)
