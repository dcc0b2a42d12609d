-- `size` meets its contract. Assumes nothing.
use mathlib.Core.Path.{refl, sym, ap}
use mathlib.Core.Bool.{Bool}
use native.Mathlib.Omega.{arith}
use Rattle.reading.specs.State.{took, resize}
use Rattle.decode_controls.proofs.Effects.{reads_of, bounded}
use Rattle.decode_controls.specs.Controls.{step_of}
use Rattle.decode_controls.proofs.size.Goals as goal

pub returns : goal.returns
unfolding step_of
returns c =
    λ b i h. reads_of _ _ (bounded refl refl) (omega arith) (omega arith) (λ place at s. ap (λ (x : Bool). took 1 (resize x s)) (sym c.is_narrow.ensures))
