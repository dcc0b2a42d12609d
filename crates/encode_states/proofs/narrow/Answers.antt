-- `encode_states::narrow` meets its contract: whether the size is narrow.
use mathlib.Core.Path.{refl}
use Rattle.encode_states.specs.Packed.{unpack}
use Rattle.encode_states.proofs.narrow.Goals as goal

pub returns : goal.returns
unfolding unpack
returns c = refl
