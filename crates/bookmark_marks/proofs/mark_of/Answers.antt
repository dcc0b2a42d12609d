-- `bookmark_marks::mark_of` meets its contract. Assumes nothing.
use mathlib.Core.Path.{sym, ap}
use native.Mathlib.Omega.{arith}
use Rattle.std.proofs.lemmas.Grind.{common_steps}
use Rattle.decode_output.specs.Waiting.{mark_of}
use Rattle.bookmark_marks.proofs.mark_of.Goals as goal

pub returns-in-1 : goal.returns-in-1
unfolding mark_of
returns-in-1 c = sym (ap mark_of c.in-1.is)

pub returns-in-2 : goal.returns-in-2
unfolding mark_of
returns-in-2 c = sym (ap mark_of c.in-2.is)

pub returns-in-3 : goal.returns-in-3
unfolding mark_of
returns-in-3 c = sym (ap mark_of c.in-3.is)

pub returns-in-4 : goal.returns-in-4
unfolding mark_of
returns-in-4 c = sym (ap mark_of c.in-4.is)

pub returns-in-5 : goal.returns-in-5
unfolding mark_of
returns-in-5 c = sym (ap mark_of c.in-5.is)

pub returns-in-6 : goal.returns-in-6
unfolding mark_of
returns-in-6 c = sym (ap mark_of c.in-6.is)

pub returns-in_default : goal.returns-in_default
unfolding mark_of
returns-in_default c = grind (arith, common_steps)
