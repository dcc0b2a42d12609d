-- `utf8::two` meets its contract: the tests are those of the definition, on as many bytes as there are. Assumes nothing.
use mathlib.Core.Path.{sym, ◌∙◌}
use mathlib.Core.Bool.{true, false}
use Rattle.utf8.proofs.Places.{short2, whole2}
use Rattle.utf8.proofs.two.Goals as goal

pub returns-in-len1-up : goal.returns-in-len1-up
returns-in-len1-up c = whole2 _ _ true c.in-len1-up.len_at_least (sym c.if-is_second.true ∙ c.is_second.ensures)

pub returns-in_default : goal.returns-in_default
returns-in_default c = short2 _ _ c.in_default.len_below

pub returns-in_default-2 : goal.returns-in_default-2
returns-in_default-2 c = whole2 _ _ false c.in-len1-up.len_at_least (sym c.if-is_second.false ∙ c.is_second.ensures)
