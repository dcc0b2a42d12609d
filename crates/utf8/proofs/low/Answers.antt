-- `utf8::low` meets its contract: the keys of the match are the rows of Table 3-7 with a second byte from elsewhere than 80. Assumes nothing.
use mathlib.Core.Path.{sym, ap}
use borrow.Author.Tests.{ne_eqb}
use Rattle.utf8.specs.Utf8.{low}
use Rattle.utf8.proofs.low.Goals as goal

pub returns-in-224 : goal.returns-in-224
unfolding low
returns-in-224 c = ap low (sym c.in-224.is)

pub returns-in-240 : goal.returns-in-240
unfolding low
returns-in-240 c = ap low (sym c.in-240.is)

pub returns-in_default : goal.returns-in_default
unfolding low
returns-in_default c = rw (ne_eqb c.args.a 0xE0 c.in_default.in_default-own.rest.0.1, ne_eqb c.args.a 0xF0 c.in_default.in_default-own.rest.1)
