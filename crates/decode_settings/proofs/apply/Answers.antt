-- `apply` meets its contract, by the effect. Assumes nothing.
use Prim.Native.Nat.{◌<◌}
use mathlib.Core.Path.{refl, ap, subst}
use mathlib.Core.Bool.{Bool}
use native.Mathlib.Omega.{arith}
use Rattle.reading.specs.State.{took, resize}
use Rattle.decode_controls.specs.declared.Effect.{Effect}
use Rattle.decode_controls.specs.Controls.{step_of, element_of}
use Rattle.decode_settings.proofs.Turning.{turns_same, turns_gl, turns_gr, turns_set, turns_size, turns_as, takes_none, takes_some, takes_read, byte}
use Rattle.decode_settings.proofs.apply.Goals as goal

pub put-requires-in-Designates : goal.put-requires-in-Designates
put-requires-in-Designates c =
    let p = c.requires in
    let four = subst (λ (e : Effect). element_of e < 4) c.in-Designates.is p.0 in
    omega (arith, p.1.seven, four)

pub returns-in-Nothing : goal.returns-in-Nothing
unfolding step_of
returns-in-Nothing c =
    let p = c.requires in
    λ f b i r place at. takes_read r c.in-Nothing.is place at (takes_some r.some refl (turns_same p.1 r.within (λ s. refl)))

pub returns-in-Gl : goal.returns-in-Gl
unfolding step_of
returns-in-Gl c =
    let p = c.requires in
    let four = subst (λ (e : Effect). element_of e < 4) c.in-Gl.is p.0 in
    λ f b i r place at. takes_read r c.in-Gl.is place at (takes_some r.some c.put.ensures.0 (turns_gl p.1 r.some r.within _ four (refl, c.put.ensures.1)))

pub returns-in-Gr : goal.returns-in-Gr
unfolding step_of
returns-in-Gr c =
    let p = c.requires in
    let four = subst (λ (e : Effect). element_of e < 4) c.in-Gr.is p.0 in
    λ f b i r place at. takes_read r c.in-Gr.is place at (takes_some r.some c.put-in-Gr.ensures.0 (turns_gr p.1 r.some r.within _ four (refl, c.put-in-Gr.ensures.1)))

pub returns-in-Designates : goal.returns-in-Designates
unfolding step_of
returns-in-Designates c =
    let p = c.requires in
    let four = subst (λ (e : Effect). element_of e < 4) c.in-Designates.is p.0 in
    λ f b i r place at. takes_read r c.in-Designates.is place at (takes_some r.some c.put-in-Designates.ensures.0 (turns_set p.1 r.some r.within _ _ four (refl, c.put-in-Designates.ensures.1)))

pub returns-in-Narrow : goal.returns-in-Narrow
unfolding step_of
returns-in-Narrow c =
    let a = c.args in
    let p = c.requires in
    λ f b i r place at.
    takes_read r c.in-Narrow.is place at
    (takes_some r.some c.put-in-Narrow.ensures.0
    (turns_as (λ s. ap (λ (u : Bool). took a.c.used (resize u s)) (byte _)) (turns_size p.1 r.some r.within _ (refl, c.put-in-Narrow.ensures.1))))

pub returns-in_default : goal.returns-in_default
returns-in_default c =
    let p = c.requires in
    λ f b i r place at. takes_none p.1 (omega (arith, r.some, r.within))
