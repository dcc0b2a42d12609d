-- `single_shift` meets its contract. Assumes nothing.
use Prim.Native.Nat.{ℕ, ◌+◌, ◌<◌, ◌≤◌}
use mathlib.Core.List.{List}
use mathlib.Core.Path.{sym, ap, ◌∙◌}
use native.Mathlib.Omega.{arith}
use lib.ListN.{length, drop, get_or}
use Rattle.reading.specs.Characters.{graphic_of}
use Rattle.decode_characters.proofs.Did.{took_as, took_did, took_shifted}
use Rattle.decode_graphic.proofs.Laws.{shift_end, shift_lone, shift_character}
use Rattle.decode_graphic.proofs.single_shift.Goals as goal

pub returns-then-i-b : goal.returns-then-i-b
returns-then-i-b c =
    let truncated = c.truncated in
    let pre = c.requires in
    λ left R. took_as (λ g x. sym (shift_end g left R _ _ _ _ x c.if-i-b.true)) (truncated.ensures _ _ _ _ pre.i_in_bounds.0)

pub graphic-w-requires : goal.graphic-w-requires
graphic-w-requires c =
    let a = c.args in
    let if1 = c.if-i-b in
    let is-graphic = c.is_graphic in
    let if2 = c.if-is_graphic in
    let pre = c.requires in
    let h : a.p.i + 1 < length a.b.now = if1.false in
    let e = sym is-graphic.ensures ∙ if2.true in
    record { may_take = pre.may_take; i_in_bounds = (h, e, pre.i_in_bounds.2 h e) }

pub overflow_add-result : goal.overflow_add-result
overflow_add-result c =
    let a = c.args in
    let good = c.well_formed in
    let h : a.p.i + 1 + c.graphic-w.result.used ≤ length a.b.now = (c.graphic-w.ensures 0 (λ b base origin s. s)).within in omega (arith, good)

pub returns-then-is_graphic : goal.returns-then-is_graphic
returns-then-is_graphic c =
    let a = c.args in
    let if1 = c.if-i-b in
    let is-graphic = c.is_graphic in
    let if2 = c.if-is_graphic in
    let graphic = c.graphic-w in
    λ left R.
    let h : a.p.i + 1 < length a.b.now = if1.false in
    let e = sym is-graphic.ensures ∙ if2.true in
    let b = a.b.now in
    took_shifted {f = λ g. graphic_of g left R (get_or a.s.sets a.element 0) (get_or b (a.p.i + 1) 0) (drop (a.p.i + 1 + 1) b) a.p.at}
    (λ g x q. shift_character g left R a.element _ _ _ x h e (ap (λ (l : List ℕ). get_or l a.element 0) q)) (graphic.ensures left R)

pub returns : goal.returns
returns c =
    let if1 = c.if-i-b in
    let is-graphic = c.is_graphic in
    let if2 = c.if-is_graphic in
    let report = c.report in
    λ left R. took_did _ 1 (omega arith) (omega arith) (λ g x. shift_lone g left R _ _ _ _ x if1.false (sym is-graphic.ensures ∙ if2.false)) (report.ensures _ _)
