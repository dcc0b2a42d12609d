-- `encode_states::gl` meets its contract: the code element in GL.
use mathlib.Core.Path.{refl}
use native.Mathlib.Omega.{arith}
use Rattle.encode_states.specs.Packed.{unpack}
use Rattle.encode_states.proofs.gl.Goals as goal

pub returns : goal.returns
unfolding unpack
returns c = record { small = omega arith; is = refl }
