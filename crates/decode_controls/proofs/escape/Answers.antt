-- `escape` meets its contract. Assumes nothing.
use Prim.Native.Nat.{◌+◌, ◌-◌}
use mathlib.Core.Path.{◌≡◌, refl, sym, ◌∙◌}
use lib.ListN.{take, drop}
use native.Mathlib.Omega.{arith}
use Rattle.decode_controls.proofs.Effects.{reads_of, bounded}
use Rattle.decode_controls.proofs.Cases.{escape_cut, escape_final, escape_none}
use Rattle.decode_controls.specs.Controls.{step_of, Means}
use Rattle.reading.specs.Controls.{applied}
use Rattle.decode_controls.proofs.escape.Goals as goal

pub returns-then-b-j : goal.returns-then-b-j
returns-then-b-j c =
    let a = c.args in
    let led = c.leading-j in
    c.cut.ensures _ (λ place at s. escape_cut a.b.now a.i led.result place at s c.requires.0 led.ensures c.if-b-j.true)

pub returns-then-is_final : goal.returns-then-is_final
returns-then-is_final c =
    let a = c.args in
    let inside = c.requires.0 in
    let led = c.leading-j in
    let more = c.if-b-j.false in
    let n : led.result + 1 - (a.i + 1) ≡ led.result - a.i = omega arith in
    let means : Means (applied (take (led.result - a.i) (drop (a.i + 1) a.b.now))) c.escape_at.result = rw n at c.escape_at.ensures in
    reads_of _ _ means.bounded (omega (arith, led.ensures)) (omega (arith, led.ensures))
    (λ place at s.
    escape_final a.b.now a.i led.result place at s inside led.ensures more (sym c.is_final.ensures ∙ c.if-is_final.true) ∙ means.says _ place at s)

pub returns : goal.returns
unfolding step_of
returns c =
    let a = c.args in
    let inside = c.requires.0 in
    let led = c.leading-j in
    let more = c.if-b-j.false in
    reads_of _ _ (bounded refl refl) (omega (arith, led.ensures)) (omega (arith, led.ensures))
    (λ place at s. escape_none a.b.now a.i led.result place at s inside led.ensures more (sym c.is_final.ensures ∙ c.if-is_final.false))
