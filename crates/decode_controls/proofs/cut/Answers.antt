-- `cut` meets its contract. Assumes nothing.
use mathlib.Core.Path.{refl}
use native.Mathlib.Omega.{arith}
use Rattle.decode_controls.proofs.Effects.{reads_of, bounded}
use Rattle.decode_controls.specs.Controls.{step_of}
use Rattle.decode_controls.proofs.cut.Goals as goal

pub returns : goal.returns
unfolding step_of
returns c =
    let inside = c.requires in
    λ f k. reads_of _ _ (bounded refl refl) (omega arith) (omega arith) k
