-- `utf8::four` meets its contract: the tests are those of the definition, on as many bytes as there are. Assumes nothing.
use mathlib.Core.Path.{refl, sym, ◌∙◌}
use mathlib.Core.Bool.{true, false}
use Rattle.utf8.proofs.Places.{short4, whole4}
use Rattle.utf8.proofs.four.Goals as goal

pub returns-in-len3-up : goal.returns-in-len3-up
returns-in-len3-up c =
    whole4 _ _ true true true c.in-len3-up.len_at_least (sym c.if-is_second.true ∙ c.is_second.ensures) (sym c.if-is_trailing.true ∙ c.is_trailing.ensures)
    (sym c.if-is_trailing-2.true ∙ c.is_trailing-then-is_trailing.ensures)

pub returns-in_default : goal.returns-in_default
returns-in_default c = short4 _ _ c.in_default.len_below

pub returns-in_default-2 : goal.returns-in_default-2
returns-in_default-2 c =
    whole4 _ _ true true false c.in-len3-up.len_at_least (sym c.if-is_second.true ∙ c.is_second.ensures) (sym c.if-is_trailing.true ∙ c.is_trailing.ensures)
    (sym c.if-is_trailing-2.false ∙ c.is_trailing-then-is_trailing.ensures)

pub returns-in_default-3 : goal.returns-in_default-3
returns-in_default-3 c =
    whole4 _ _ true false _ c.in-len3-up.len_at_least (sym c.if-is_second.true ∙ c.is_second.ensures) (sym c.if-is_trailing.false ∙ c.is_trailing.ensures) refl

pub returns-in_default-4 : goal.returns-in_default-4
returns-in_default-4 c = whole4 _ _ false _ _ c.in-len3-up.len_at_least (sym c.if-is_second.false ∙ c.is_second.ensures) refl refl
