-- `graphic2` meets its contract. Assumes nothing.
use Prim.Native.Nat.{◌+◌, ◌<◌}
use mathlib.Core.Path.{sym, ◌∙◌}
use native.Mathlib.Omega.{arith}
use lib.ListN.{get_or}
use Rattle.decode_characters.proofs.Did.{took_as, took_did}
use Rattle.decode_codes.proofs.Laws.{and_left, in_area, graphic2_pair}
use Rattle.decode_graphic.proofs.Laws.{graphic2_end, graphic2_other}
use Rattle.decode_graphic.proofs.graphic2.Goals as goal
use Rattle.decode_graphic.proofs.graphic2.Goals.{else-i-b-via-then-i-b+else-is_second, else-i-b-via-else-i-b}

pub char2-requires : goal.char2-requires
char2-requires c =
    let a = c.args in
    let pre = c.requires in
    let i = a.p.i in
    let b = a.b.now in
    let hx : get_or b i 0 < 256 = omega (arith, c.type_inv.b i) in
    let hy : get_or b (i + 1) 0 < 256 = omega (arith, c.type_inv.b (i + 1)) in
    let x = in_area _ hx pre.i_in_bounds.1 in
    let y = in_area _ hy (and_left _ _ (sym c.is_second.ensures ∙ c.if-is_second.true)) in
    record { may_take = pre.may_take; le_a = (x.low, x.high, y.low, y.high) }

pub returns-then-is_second : goal.returns-then-is_second
returns-then-is_second c =
    took_did _ 2 (omega arith) (omega arith) (λ g x. graphic2_pair g _ _ _ _ _ x c.if-i-b.true (sym c.is_second.ensures ∙ c.if-is_second.true)) c.char2.ensures

pub returns : goal.returns
returns c =
    let cut = c.truncated.ensures _ _ _ _ c.requires.i_in_bounds.0 in
    elim c.else-i-b.branch [
      | else-i-b-via-then-i-b+else-is_second w ↦ took_as (λ g x. sym (graphic2_other g _ _ _ _ _ x w.if-i-b.true (sym w.is_second.ensures ∙ w.if-is_second.false))) cut
      | else-i-b-via-else-i-b w ↦ took_as (λ g x. sym (graphic2_end g _ _ _ _ _ x w.if-i-b.false)) cut
    ]
