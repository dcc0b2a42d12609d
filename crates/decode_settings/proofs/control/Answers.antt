-- `control` meets its contract, by the byte. Assumes nothing.
use Prim.Native.Nat.{ℕ, ◌+◌, ◌≤◌}
use mathlib.Core.Path.{◌≡◌, refl, ap, ◌∙◌}
use mathlib.Core.Bool.{false}
use mathlib.Core.Logic.{inl, inr, ⊎_elim}
use native.Mathlib.Omega.{arith}
use lib.ListN.{drop, get_or}
use Rattle.reading.specs.Characters.{is_gl, is_gr}
use Rattle.reading.specs.Steps.{step, control0, control1}
use Rattle.decode_controls.proofs.Cases.{fixed_all}
use Rattle.decode_controls.proofs.Bytes.{gl_below, gl_above, gr_below, gr_above, step_colour, step_fixed}
use Rattle.decode_settings.proofs.Turning.{turns_same, takes_none, takes_some, takes_as, colours}
use Rattle.decode_settings.proofs.control.Goals as goal

pub apply-requires : goal.apply-requires
apply-requires c =
    let a = c.args in
    ((c.invoke.ensures a.b.now a.i c.requires.0).bounded.element, c.requires.1)

pub apply-requires-in-14 : goal.apply-requires-in-14
apply-requires-in-14 c =
    let a = c.args in
    ((c.invoke-in-14.ensures a.b.now a.i c.requires.0).bounded.element, c.requires.1)

pub apply-requires-in-136 : goal.apply-requires-in-136
apply-requires-in-136 c =
    let a = c.args in
    ((c.size.ensures a.b.now a.i c.requires.0).bounded.element, c.requires.1)

pub apply-requires-in-137 : goal.apply-requires-in-137
apply-requires-in-137 c =
    let a = c.args in
    ((c.size-in-137.ensures a.b.now a.i c.requires.0).bounded.element, c.requires.1)

pub apply-requires-in-138 : goal.apply-requires-in-138
apply-requires-in-138 c =
    let a = c.args in
    ((c.size-in-138.ensures a.b.now a.i c.requires.0).bounded.element, c.requires.1)

pub returns-in-15 : goal.returns-in-15
unfolding step control0 is_gl is_gr
returns-in-15 c =
    let a = c.args in
    let done = c.apply.ensures in
    let read = c.invoke.ensures a.b.now a.i c.requires.0 in
    λ g left R place at. takes_as (λ s. ap (λ (x : ℕ). step g left R x (drop (a.i + 1) a.b.now) place at s) c.in-15.is) (done _ _ _ read place at)

pub returns-in-14 : goal.returns-in-14
unfolding step control0 is_gl is_gr
returns-in-14 c =
    let a = c.args in
    let done = c.apply-in-14.ensures in
    let read = c.invoke-in-14.ensures a.b.now a.i c.requires.0 in
    λ g left R place at. takes_as (λ s. ap (λ (x : ℕ). step g left R x (drop (a.i + 1) a.b.now) place at s) c.in-14.is) (done _ _ _ read place at)

pub returns-in-27 : goal.returns-in-27
unfolding step control0 is_gl is_gr
returns-in-27 c =
    let a = c.args in
    let done = c.apply-in-27.ensures in
    let read = c.escape.ensures in
    λ g left R place at. takes_as (λ s. ap (λ (x : ℕ). step g left R x (drop (a.i + 1) a.b.now) place at s) c.in-27.is) (done _ _ _ read place at)

pub returns-in-136 : goal.returns-in-136
unfolding step control1 is_gl is_gr
returns-in-136 c =
    let a = c.args in
    let done = c.apply-in-136.ensures in
    let read = c.size.ensures a.b.now a.i c.requires.0 in
    λ g left R place at. takes_as (λ s. ap (λ (x : ℕ). step g left R x (drop (a.i + 1) a.b.now) place at s) c.in-136.is) (done _ _ _ read place at)

pub returns-in-137 : goal.returns-in-137
unfolding step control1 is_gl is_gr
returns-in-137 c =
    let a = c.args in
    let done = c.apply-in-137.ensures in
    let read = c.size-in-137.ensures a.b.now a.i c.requires.0 in
    λ g left R place at. takes_as (λ s. ap (λ (x : ℕ). step g left R x (drop (a.i + 1) a.b.now) place at s) c.in-137.is) (done _ _ _ read place at)

pub returns-in-138 : goal.returns-in-138
unfolding step control1 is_gl is_gr
returns-in-138 c =
    let a = c.args in
    let done = c.apply-in-138.ensures in
    let read = c.size-in-138.ensures a.b.now a.i c.requires.0 in
    λ g left R place at. takes_as (λ s. ap (λ (x : ℕ). step g left R x (drop (a.i + 1) a.b.now) place at s) c.in-138.is) (done _ _ _ read place at)

pub returns-in-139 : goal.returns-in-139
unfolding step control1 is_gl is_gr
returns-in-139 c =
    let a = c.args in
    let done = c.apply-in-139.ensures in
    let read = c.szx.ensures in
    λ g left R place at. takes_as (λ s. ap (λ (x : ℕ). step g left R x (drop (a.i + 1) a.b.now) place at s) c.in-139.is) (done _ _ _ read place at)

pub returns-in-144 : goal.returns-in-144
returns-in-144 c =
    let a = c.args in
    λ g left R place at.
    takes_as (λ s. step_colour g left R _ (drop (a.i + 1) a.b.now) place at s c.in-144.is) (c.apply-in-144.ensures _ _ _ c.colour.ensures place at)

pub returns-in-155 : goal.returns-in-155
unfolding step control1 is_gl is_gr
returns-in-155 c =
    let a = c.args in
    let done = c.apply-in-155.ensures in
    let read = c.csi.ensures in
    λ g left R place at. takes_as (λ s. ap (λ (x : ℕ). step g left R x (drop (a.i + 1) a.b.now) place at s) c.in-155.is) (done _ _ _ read place at)

pub returns-in-157 : goal.returns-in-157
unfolding step control1 is_gl is_gr
returns-in-157 c =
    let a = c.args in
    let done = c.apply-in-157.ensures in
    let read = c.time.ensures in
    λ g left R place at. takes_as (λ s. ap (λ (x : ℕ). step g left R x (drop (a.i + 1) a.b.now) place at s) c.in-157.is) (done _ _ _ read place at)

pub returns-in-32 : goal.returns-in-32
returns-in-32 c =
    let p = c.requires in
    λ g left R place at. takes_none p.1 p.0

pub returns-in-33-to-126 : goal.returns-in-33-to-126
returns-in-33-to-126 c =
    let p = c.requires in
    λ g left R place at. takes_none p.1 p.0

pub returns-in-128-to-135 : goal.returns-in-128-to-135
returns-in-128-to-135 c =
    let a = c.args in
    let inside = c.requires.0 in
    let x = get_or a.b.now a.i 0 in
    let p : 0x80 ≤ x = omega (arith, c.in-128-to-135.if-this-lt128-own.false) in
    let q : x ≤ 0x87 = omega (arith, c.in-128-to-135.if-this-lt136-own.true) in
    λ g left R place at.
    takes_some (omega arith) refl (turns_same c.requires.1 (omega arith)
    (λ s.
    step_fixed g left R x (drop (a.i + 1) a.b.now) place at s (gl_above x (omega arith)) (gr_below x (omega arith))
    (record { space = λ e. omega arith; ls0 = λ e. omega arith; ls1 = λ e. omega arith; ss2 = λ e. omega arith; ss3 = λ e. omega arith; esc = λ e. omega arith; newline = λ e. omega arith })
    (record {
      ssz = λ e. omega arith;
      msz = λ e. omega arith;
      nsz = λ e. omega arith;
      szx = λ e. omega arith;
      col = λ e. omega arith;
      cdc = λ e. omega arith;
      macro = λ e. omega arith;
      rpc = λ e. omega arith;
      csi = λ e. omega arith;
      time = λ e. omega arith;
    })
    ∙ fixed_all a.b.now a.i at s inside 0 (colours x p q) (omega arith)))

pub returns-in-161-to-254 : goal.returns-in-161-to-254
returns-in-161-to-254 c =
    let p = c.requires in
    λ g left R place at. takes_none p.1 p.0

pub returns-in_default : goal.returns-in_default
returns-in_default c =
    let a = c.args in
    let x = get_or a.b.now a.i 0 in
    let m = c.in_default-1.rest in
    let came = c.in_default.branch-raw in
    let l : is_gl x ≡ false =
    ⊎_elim (λ w. gl_below x (omega arith)) (⊎_elim (λ w. gl_above x (omega arith)) (⊎_elim (λ w. gl_above x (omega arith)) (λ w. gl_above x (omega arith)))) came in
    let r : is_gr x ≡ false =
    ⊎_elim (λ w. gr_below x (omega arith)) (⊎_elim (λ w. gr_below x (omega arith)) (⊎_elim (λ w. gr_below x (omega arith)) (λ w. gr_above x (omega arith)))) came in
    λ g left R place at.
    takes_as
    (λ s.
    step_fixed g left R x (drop (a.i + 1) a.b.now) place at s l r
    (record {
      space = λ e. m.1 (inr (inr (inr (inl e))));
      ls0 = m.0.0.0.0.0.0.0.0.0.0.1;
      ls1 = m.0.0.0.0.0.0.0.0.0.1;
      ss2 = λ e. m.1 (inr (inl e));
      ss3 = λ e. m.1 (inr (inr (inl e)));
      esc = m.0.0.0.0.0.0.0.0.1;
      newline = λ e. m.1 (inl e);
    })
    (record {
      ssz = m.0.0.0.0.0.0.0.1;
      msz = m.0.0.0.0.0.0.1;
      nsz = m.0.0.0.0.0.1;
      szx = m.0.0.0.0.1;
      col = λ e. m.0.0.0.1 (inl e);
      cdc = λ e. m.0.0.0.1 (inr e);
      macro = λ e. m.1 (inr (inr (inr (inr (inl e)))));
      rpc = λ e. m.1 (inr (inr (inr (inr (inr e)))));
      csi = m.0.0.1;
      time = m.0.1;
    }))
    (c.apply-in_default.ensures _ _ _ c.fixed.ensures place at)
