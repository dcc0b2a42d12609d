-- `encode_states::resize` meets its contract: the size becomes narrow or wide.
use Rattle.encode_states.proofs.Digits.{to_size}
use Rattle.encode_states.proofs.resize.Goals as goal

pub returns : goal.returns
returns c = to_size c.args.a c.args.narrow c.requires
