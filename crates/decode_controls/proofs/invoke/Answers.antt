-- `invoke` meets its contract. Assumes nothing.
use mathlib.Core.Path.{refl}
use native.Mathlib.Omega.{arith}
use Rattle.decode_controls.proofs.Effects.{reads_of}
use Rattle.decode_controls.specs.Controls.{step_of}
use Rattle.decode_controls.proofs.invoke.Goals as goal

pub returns : goal.returns
unfolding step_of
returns c =
    λ b i h. reads_of _ _ (record { element = c.requires; count = omega arith }) (omega arith) (omega arith) (λ place at s. refl)
