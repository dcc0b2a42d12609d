-- `colour` meets its contract. Assumes nothing.
use mathlib.Core.Path.{refl}
use native.Mathlib.Omega.{arith}
use Rattle.reading.specs.Controls.{colour}
use Rattle.decode_controls.proofs.Effects.{reads_as, reads_nothing}
use Rattle.decode_controls.proofs.Cases.{at_end, at_head, colour_two, colour_one}
use Rattle.decode_controls.proofs.colour.Goals as goal

pub returns-then-b-i : goal.returns-then-b-i
unfolding colour
returns-then-b-i c =
    let a = c.args in
    c.cut.ensures _ (λ place at s. at_end (λ l. colour l at s) a.b.now a.i at s refl c.requires c.if-b-i.true)

pub returns-then-b-i-eq32 : goal.returns-then-b-i-eq32
returns-then-b-i-eq32 c =
    let a = c.args in
    reads_as (λ place at s. at_head (λ l. colour l at s) a.b.now a.i _ c.if-b-i.false (colour_two _ _ at s c.if-b-i-eq32.true)) c.second.ensures

pub returns : goal.returns
returns c =
    let a = c.args in
    let more = c.if-b-i.false in
    reads_nothing 2 (omega arith) (omega arith) (λ at s. at_head (λ l. colour l at s) a.b.now a.i _ more (colour_one _ _ at s c.if-b-i-eq32.false))
