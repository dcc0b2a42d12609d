-- `encode_writing::lock_gl` meets its contract: by the code element. Assumes nothing.
use mathlib.Core.Path.{sym, ap}
use Rattle.encode_states.specs.Written.{invocation}
use Rattle.encode_writing.proofs.Laws.{last_gl}
use Rattle.encode_writing.proofs.lock_gl.Goals as goal

pub returns-in-0 : goal.returns-in-0
unfolding invocation
returns-in-0 c = sym (ap (invocation 2) c.in-0.is)

pub returns-in-1 : goal.returns-in-1
unfolding invocation
returns-in-1 c = sym (ap (invocation 2) c.in-1.is)

pub returns-in-2 : goal.returns-in-2
unfolding invocation
returns-in-2 c = sym (ap (invocation 2) c.in-2.is)

pub returns-in_default : goal.returns-in_default
returns-in_default c = last_gl _ c.in_default.in_default-own.rest.0.0.1 c.in_default.in_default-own.rest.0.1 c.in_default.in_default-own.rest.1
