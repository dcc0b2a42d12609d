-- `designate` meets its contract. Assumes nothing.
use mathlib.Core.Path.{sym, ap, ◌∙◌}
use mathlib.Core.Option.{some}
use native.Mathlib.Omega.{arith}
use Rattle.sets.specs.Sets.{designated}
use Rattle.sets.proofs.Laws.{known_set}
use Rattle.decode_controls.proofs.Escapes.{means_set, means_none}
use Rattle.decode_controls.proofs.designate.Goals as goal

pub overflow_cast-result : goal.overflow_cast-result
overflow_cast-result c =
    let q = known_set _ _ _ _ (sym c.from_designation.ensures ∙ ap designated c.in-Some.is) in
    record { fits = omega (arith, q, c.number.ensures) }

pub returns-in-Some : goal.returns-in-Some
returns-in-Some c =
    let found = c.from_designation.ensures in
    means_set _ _ _ c.requires (sym found ∙ ap designated c.in-Some.is ∙ ap some (sym c.number.ensures))

pub returns-in-None : goal.returns-in-None
returns-in-None c = means_none _ _ (sym c.from_designation.ensures ∙ ap designated c.in-None.is)
