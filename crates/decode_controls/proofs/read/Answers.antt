-- `read` meets its contract, by the byte. Assumes nothing.
use Prim.Native.Nat.{ℕ, ◌+◌}
use mathlib.Core.Path.{ap}
use mathlib.Core.Logic.{inl, inr}
use lib.ListN.{drop}
use Rattle.reading.specs.Characters.{is_gl, is_gr}
use Rattle.reading.specs.Steps.{step, control0, control1}
use Rattle.decode_controls.proofs.Effects.{reads_as}
use Rattle.decode_controls.proofs.Bytes.{step_colour, step_fixed}
use Rattle.decode_controls.proofs.read.Goals as goal

pub returns-in-15 : goal.returns-in-15
unfolding step control0 is_gl is_gr
returns-in-15 c =
    let a = c.args in
    let is = c.in-15.is in
    λ g left R. reads_as (λ place at s. ap (λ (x : ℕ). step g left R x (drop (a.i + 1) a.b.now) place at s) is) (c.invoke.ensures _ _ c.requires.0)

pub returns-in-14 : goal.returns-in-14
unfolding step control0 is_gl is_gr
returns-in-14 c =
    let a = c.args in
    let is = c.in-14.is in
    λ g left R. reads_as (λ place at s. ap (λ (x : ℕ). step g left R x (drop (a.i + 1) a.b.now) place at s) is) (c.invoke-in-14.ensures _ _ c.requires.0)

pub returns-in-27 : goal.returns-in-27
unfolding step control0 is_gl is_gr
returns-in-27 c =
    let a = c.args in
    let is = c.in-27.is in
    λ g left R. reads_as (λ place at s. ap (λ (x : ℕ). step g left R x (drop (a.i + 1) a.b.now) place at s) is) c.escape.ensures

pub returns-in-136 : goal.returns-in-136
unfolding step control1 is_gl is_gr
returns-in-136 c =
    let a = c.args in
    let is = c.in-136.is in
    λ g left R. reads_as (λ place at s. ap (λ (x : ℕ). step g left R x (drop (a.i + 1) a.b.now) place at s) is) (c.size.ensures _ _ c.requires.0)

pub returns-in-137 : goal.returns-in-137
unfolding step control1 is_gl is_gr
returns-in-137 c =
    let a = c.args in
    let is = c.in-137.is in
    λ g left R. reads_as (λ place at s. ap (λ (x : ℕ). step g left R x (drop (a.i + 1) a.b.now) place at s) is) (c.size-in-137.ensures _ _ c.requires.0)

pub returns-in-138 : goal.returns-in-138
unfolding step control1 is_gl is_gr
returns-in-138 c =
    let a = c.args in
    let is = c.in-138.is in
    λ g left R. reads_as (λ place at s. ap (λ (x : ℕ). step g left R x (drop (a.i + 1) a.b.now) place at s) is) (c.size-in-138.ensures _ _ c.requires.0)

pub returns-in-139 : goal.returns-in-139
unfolding step control1 is_gl is_gr
returns-in-139 c =
    let a = c.args in
    let is = c.in-139.is in
    λ g left R. reads_as (λ place at s. ap (λ (x : ℕ). step g left R x (drop (a.i + 1) a.b.now) place at s) is) c.szx.ensures

pub returns-in-144 : goal.returns-in-144
returns-in-144 c =
    let a = c.args in
    λ g left R. reads_as (λ place at s. step_colour g left R _ (drop (a.i + 1) a.b.now) place at s c.in-144.is) c.colour.ensures

pub returns-in-155 : goal.returns-in-155
unfolding step control1 is_gl is_gr
returns-in-155 c =
    let a = c.args in
    let is = c.in-155.is in
    λ g left R. reads_as (λ place at s. ap (λ (x : ℕ). step g left R x (drop (a.i + 1) a.b.now) place at s) is) c.csi.ensures

pub returns-in-157 : goal.returns-in-157
unfolding step control1 is_gl is_gr
returns-in-157 c =
    let a = c.args in
    let is = c.in-157.is in
    λ g left R. reads_as (λ place at s. ap (λ (x : ℕ). step g left R x (drop (a.i + 1) a.b.now) place at s) is) c.time.ensures

pub returns-in-152 : goal.returns-in-152
unfolding step control1 is_gl is_gr
returns-in-152 c =
    let a = c.args in
    let is = c.in-152.is in
    λ g left R. reads_as (λ place at s. ap (λ (x : ℕ). step g left R x (drop (a.i + 1) a.b.now) place at s) is) c.rpc.ensures

pub returns-in_default : goal.returns-in_default
returns-in_default c =
    let a = c.args in
    let h = c.requires.1 in
    let m = c.in_default.in_default-own.rest in
    λ g left R.
    reads_as
    (λ place at s.
    step_fixed g left R _ (drop (a.i + 1) a.b.now) place at s h.gl h.gr
    (record {
      space = h.space;
      ls0 = m.0.0.0.0.0.0.0.0.0.0.1;
      ls1 = m.0.0.0.0.0.0.0.0.0.1;
      ss2 = h.ss2;
      ss3 = h.ss3;
      esc = m.0.0.0.0.0.0.0.0.1;
      newline = h.newline;
    })
    (record {
      ssz = m.0.0.0.0.0.0.0.1;
      msz = m.0.0.0.0.0.0.1;
      nsz = m.0.0.0.0.0.1;
      szx = m.0.0.0.0.1;
      col = λ e. m.0.0.0.1 (inl e);
      cdc = λ e. m.0.0.0.1 (inr e);
      macro = h.macro;
      rpc = m.1;
      csi = m.0.0.1;
      time = m.0.1;
    }))
    c.fixed.ensures
