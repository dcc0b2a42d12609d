-- `encode_states::to_gl` meets its contract: the code element n is invoked in GL.
use Rattle.encode_states.proofs.Digits.{to_gl}
use Rattle.encode_states.proofs.to_gl.Goals as goal

pub returns : goal.returns
returns c = to_gl c.args.a c.args.n c.requires.1 c.requires.0
