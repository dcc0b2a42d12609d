-- `encode_states::set_in` meets its contract: the code of the set in the code element n.
use Rattle.encode_states.proofs.Elements.{in_element}
use Rattle.encode_states.proofs.set_in.Goals as goal

pub returns : goal.returns
returns c = in_element c.args.a c.requires.0 c.args.n c.requires.1
