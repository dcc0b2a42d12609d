-- `encode_writing::single` meets its contract: by the code element. Assumes nothing.
use mathlib.Core.Path.{sym, ap}
use Rattle.encode_states.specs.Written.{invocation}
use Rattle.encode_writing.proofs.Laws.{last_single}
use Rattle.encode_writing.proofs.single.Goals as goal

pub returns-in-3 : goal.returns-in-3
unfolding invocation
returns-in-3 c = sym (ap (invocation 4) c.in-3.is)

pub returns-in_default : goal.returns-in_default
returns-in_default c = last_single _ c.requires c.in_default.in_default-own.rest.1
