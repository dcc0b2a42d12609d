-- `encode_states::designate` meets its contract: the set of code x is designated to the code element n.
use native.Mathlib.Omega.{arith}
use Rattle.encode_states.proofs.Elements.{moved}
use Rattle.encode_states.proofs.designate.Goals as goal

pub overflow_sub-result : goal.overflow_sub-result
overflow_sub-result c = (moved c.args.a c.args.n c.args.x c.requires.0 c.requires.1 c.requires.2).below

pub overflow_add-result : goal.overflow_add-result
overflow_add-result c = omega (arith, (moved c.args.a c.args.n c.args.x c.requires.0 c.requires.1 c.requires.2).fits)

pub returns : goal.returns
returns c = (moved c.args.a c.args.n c.args.x c.requires.0 c.requires.1 c.requires.2).is
