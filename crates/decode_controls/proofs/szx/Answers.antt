-- `szx` meets its contract. Assumes nothing.
use mathlib.Core.Path.{refl, sym, ap}
use mathlib.Core.Bool.{Bool}
use native.Mathlib.Omega.{arith}
use Rattle.reading.specs.State.{took, resize}
use Rattle.reading.specs.Controls.{szx}
use Rattle.decode_controls.proofs.Effects.{reads_of, bounded}
use Rattle.decode_controls.proofs.Cases.{at_end, at_head}
use Rattle.decode_controls.specs.Controls.{step_of}
use Rattle.decode_controls.proofs.szx.Goals as goal

pub returns-then-b-i : goal.returns-then-b-i
unfolding szx
returns-then-b-i c =
    let a = c.args in
    c.cut.ensures _ (λ place at s. at_end (λ l. szx l at s) a.b.now a.i at s refl c.requires c.if-b-i.true)

pub returns : goal.returns
unfolding szx step_of
returns c =
    let a = c.args in
    let more = c.if-b-i.false in
    reads_of _ _ (bounded refl refl) (omega arith) (omega arith)
    (λ place at s. at_head (λ l. szx l at s) a.b.now a.i _ more (ap (λ (x : Bool). took 2 (resize x s)) (sym c.is_narrow.ensures)))
