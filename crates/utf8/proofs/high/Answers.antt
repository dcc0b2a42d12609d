-- `utf8::high` meets its contract: the keys of the match are the rows of Table 3-7 with a second byte up to elsewhere than BF. Assumes nothing.
use mathlib.Core.Path.{sym, ap}
use borrow.Author.Tests.{ne_eqb}
use Rattle.utf8.specs.Utf8.{high}
use Rattle.utf8.proofs.high.Goals as goal

pub returns-in-237 : goal.returns-in-237
unfolding high
returns-in-237 c = ap high (sym c.in-237.is)

pub returns-in-244 : goal.returns-in-244
unfolding high
returns-in-244 c = ap high (sym c.in-244.is)

pub returns-in_default : goal.returns-in_default
unfolding high
returns-in_default c = rw (ne_eqb c.args.a 0xED c.in_default.in_default-own.rest.0.1, ne_eqb c.args.a 0xF4 c.in_default.in_default-own.rest.1)
