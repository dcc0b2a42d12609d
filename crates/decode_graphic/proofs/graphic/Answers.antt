-- `graphic` meets its contract. Assumes nothing.
use mathlib.Core.Path.{sym, ◌∙◌}
use native.Mathlib.Omega.{arith}
use Rattle.decode_characters.proofs.Did.{took_as, took_did}
use Rattle.decode_codes.proofs.Laws.{graphic_two, graphic_one}
use Rattle.decode_graphic.proofs.graphic.Goals as goal

pub returns-then-two_bytes : goal.returns-then-two_bytes
returns-then-two_bytes c =
    let two_bytes = c.two_bytes in
    let if1 = c.if-two_bytes in
    let graphic2 = c.graphic2 in
    λ left R. took_as (λ g x. graphic_two g left R _ _ _ _ x (sym two_bytes.ensures ∙ if1.true)) graphic2.ensures

pub returns : goal.returns
returns c =
    let pre = c.requires in
    let two_bytes = c.two_bytes in
    let if1 = c.if-two_bytes in
    let char1 = c.char1 in
    λ left R. took_did _ 1 (omega arith) (omega (arith, pre.i_in_bounds.0)) (λ g x. graphic_one g left R _ _ _ _ x (sym two_bytes.ensures ∙ if1.false)) (char1.ensures _ left R)
