-- `encode_writing::lock_gr` meets its contract: by the code element. Assumes nothing.
use mathlib.Core.Path.{sym, ap}
use Rattle.encode_states.specs.Written.{invocation}
use Rattle.encode_writing.proofs.Laws.{last_gr}
use Rattle.encode_writing.proofs.lock_gr.Goals as goal

pub returns-in-2 : goal.returns-in-2
unfolding invocation
returns-in-2 c = sym (ap (invocation 3) c.in-2.is)

pub returns-in-3 : goal.returns-in-3
unfolding invocation
returns-in-3 c = sym (ap (invocation 3) c.in-3.is)

pub returns-in_default : goal.returns-in_default
returns-in_default c = last_gr _ c.requires c.in_default.in_default-own.rest.0.1 c.in_default.in_default-own.rest.1
