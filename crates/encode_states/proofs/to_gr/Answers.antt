-- `encode_states::to_gr` meets its contract: the code element n is invoked in GR.
use Rattle.encode_states.proofs.Digits.{to_gr}
use Rattle.encode_states.proofs.to_gr.Goals as goal

pub returns : goal.returns
returns c = to_gr c.args.a c.args.n c.requires.1 c.requires.0
