-- `encode_writing::set_of` meets its contract: code by code. Assumes nothing.
use mathlib.Core.Path.{sym, ap}
use Rattle.encode_writing.proofs.Laws.{macro_code}
use Rattle.encode_states.specs.Packed.{set_of}
use Rattle.encode_writing.proofs.set_of.Goals as goal

pub returns-in-0 : goal.returns-in-0
unfolding set_of
returns-in-0 c = sym (ap set_of c.in-0.is)

pub returns-in-1 : goal.returns-in-1
unfolding set_of
returns-in-1 c = sym (ap set_of c.in-1.is)

pub returns-in-2 : goal.returns-in-2
unfolding set_of
returns-in-2 c = sym (ap set_of c.in-2.is)

pub returns-in-3 : goal.returns-in-3
unfolding set_of
returns-in-3 c = sym (ap set_of c.in-3.is)

pub returns-in-4 : goal.returns-in-4
unfolding set_of
returns-in-4 c = sym (ap set_of c.in-4.is)

pub returns-in-5 : goal.returns-in-5
unfolding set_of
returns-in-5 c = sym (ap set_of c.in-5.is)

pub returns-in_default : goal.returns-in_default
unfolding set_of
returns-in_default c = let m = c.in_default.in_default-own.rest in macro_code c.args.x c.requires m.0.0.0.0.0.1 m.0.0.0.0.1 m.0.0.0.1 m.0.0.1 m.0.1 m.1
