-- `utf8::three` meets its contract: the tests are those of the definition, on as many bytes as there are. Assumes nothing.
use mathlib.Core.Path.{refl, sym, ◌∙◌}
use mathlib.Core.Bool.{true, false}
use Rattle.utf8.proofs.Places.{short3, whole3}
use Rattle.utf8.proofs.three.Goals as goal

pub returns-in-len2-up : goal.returns-in-len2-up
returns-in-len2-up c =
    whole3 _ _ true true c.in-len2-up.len_at_least (sym c.if-is_second.true ∙ c.is_second.ensures) (sym c.if-is_trailing.true ∙ c.is_trailing.ensures)

pub returns-in_default : goal.returns-in_default
returns-in_default c = short3 _ _ c.in_default.len_below

pub returns-in_default-2 : goal.returns-in_default-2
returns-in_default-2 c =
    whole3 _ _ true false c.in-len2-up.len_at_least (sym c.if-is_second.true ∙ c.is_second.ensures) (sym c.if-is_trailing.false ∙ c.is_trailing.ensures)

pub returns-in_default-3 : goal.returns-in_default-3
returns-in_default-3 c = whole3 _ _ false _ c.in-len2-up.len_at_least (sym c.if-is_second.false ∙ c.is_second.ensures) refl
