-- `rpc` meets its contract. Assumes nothing.
use mathlib.Core.Path.{refl}
use native.Mathlib.Omega.{arith}
use Rattle.reading.specs.Controls.{rpc}
use Rattle.decode_controls.proofs.Effects.{reads_of}
use Rattle.decode_controls.proofs.Cases.{at_end, at_head}
use Rattle.decode_controls.specs.Controls.{step_of}
use Rattle.decode_controls.proofs.rpc.Goals as goal

pub returns-then-b-i : goal.returns-then-b-i
unfolding rpc
returns-then-b-i c =
    let a = c.args in
    c.cut.ensures _ (λ place at s. at_end (λ l. rpc l at s) a.b.now a.i at s refl c.requires c.if-b-i.true)

pub returns : goal.returns
unfolding rpc step_of
returns c =
    let a = c.args in
    let more = c.if-b-i.false in
    reads_of _ _ (record { element = omega arith; count = omega arith }) (omega arith) (omega arith) (λ place at s. at_head (λ l. rpc l at s) a.b.now a.i _ more refl)
