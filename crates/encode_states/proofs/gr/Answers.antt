-- `encode_states::gr` meets its contract: the code element in GR.
use mathlib.Core.Path.{refl}
use native.Mathlib.Omega.{arith}
use Rattle.encode_states.specs.Packed.{unpack}
use Rattle.encode_states.proofs.gr.Goals as goal

pub returns : goal.returns
unfolding unpack
returns c = record { small = omega arith; is = refl }
