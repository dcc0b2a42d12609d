-- `sequence` meets its contract. Assumes nothing.
use mathlib.Core.Path.{refl, sym, ◌∙◌}
use native.Mathlib.Omega.{arith}
use Rattle.decode_controls.proofs.Effects.{reads_of, bounded, reads_nothing}
use Rattle.decode_controls.proofs.Cases.{sequence_cut, sequence_final, sequence_malformed, sequence_other}
use Rattle.decode_controls.specs.Controls.{step_of}
use Rattle.decode_controls.proofs.sequence.Goals as goal

pub returns-then-b-j : goal.returns-then-b-j
returns-then-b-j c =
    let a = c.args in
    let p = c.requires in
    let led = c.leading-j in
    c.cut.ensures _ (λ place at s. sequence_cut a.strict a.code a.b.now a.i a.from led.result at s p.0 p.1 led.ensures c.if-b-j.true)

pub returns-then-is_final : goal.returns-then-is_final
returns-then-is_final c =
    let a = c.args in
    let p = c.requires in
    let led = c.leading-j in
    let more = c.if-b-j.false in
    reads_nothing _ (omega (arith, led.ensures)) (omega (arith, led.ensures))
    (λ at s. sequence_final a.strict a.code a.b.now a.i a.from led.result at s p.0 p.1 led.ensures more (sym c.is_final.ensures ∙ c.if-is_final.true))

pub returns-then-strict : goal.returns-then-strict
unfolding step_of
returns-then-strict c =
    let a = c.args in
    let p = c.requires in
    let led = c.leading-j in
    let more = c.if-b-j.false in
    reads_of _ _ (bounded refl refl) (omega (arith, led.ensures)) (omega (arith, led.ensures))
    (λ place at s.
    sequence_malformed a.strict a.code a.b.now a.i a.from led.result at s p.0 p.1 led.ensures more
    (sym c.is_final.ensures ∙ c.if-is_final.false) c.if-strict.true)

pub returns : goal.returns
returns c =
    let a = c.args in
    let p = c.requires in
    let led = c.leading-j in
    let more = c.if-b-j.false in
    reads_nothing _ (omega (arith, led.ensures)) (omega (arith, led.ensures))
    (λ at s.
    sequence_other a.strict a.code a.b.now a.i a.from led.result at s p.0 p.1 led.ensures more
    (sym c.is_final.ensures ∙ c.if-is_final.false) c.if-strict.false)
