-- `encode_writing::shift` meets its contract: by the kind of shift. Assumes nothing.
use Prim.Native.Nat.{ℕ}
use mathlib.Core.Path.{sym, ap, ◌∙◌}
use Rattle.encode_states.specs.Written.{invocation}
use Rattle.encode_writing.proofs.Laws.{single_of}
use Rattle.encode_writing.proofs.shift.Goals as goal

pub returns-in-2 : goal.returns-in-2
returns-in-2 c = c.lock_gl.ensures ∙ sym (ap (λ (v : ℕ). invocation v c.args.e) c.in-2.is)

pub returns-in-3 : goal.returns-in-3
returns-in-3 c = c.lock_gr.ensures ∙ sym (ap (λ (v : ℕ). invocation v c.args.e) c.in-3.is)

pub returns-in_default : goal.returns-in_default
returns-in_default c = c.single.ensures ∙ single_of c.args.v c.args.e c.requires.0 c.in_default.in_default-own.rest.0.1 c.in_default.in_default-own.rest.1
