-- `pair_at` meets its contract. Assumes nothing.
use Prim.Native.Nat.{◌+◌, ◌<◌}
use mathlib.Core.Path.{sym, ◌∙◌}
use native.Mathlib.Omega.{arith}
use lib.ListN.{get_or}
use Rattle.decode_codes.proofs.Laws.{and_left, in_area}
use Rattle.decode_letters.proofs.pair_at.Goals as goal

pub overflow_sub-row : goal.overflow_sub-row
overflow_sub-row c =
    let a = c.args in
    let x : get_or a.b.now a.i 0 < 256 = omega (arith, c.type_inv.b a.i) in
    omega (arith, (in_area _ x c.requires.2).low)

pub overflow_sub-cell : goal.overflow_sub-cell
overflow_sub-cell c =
    let a = c.args in
    let y : get_or a.b.now (a.i + 1) 0 < 256 = omega (arith, c.type_inv.b (a.i + 1)) in
    omega (arith, (in_area _ y (and_left _ _ (sym c.is_second.ensures ∙ c.if-is_second.true))).low)
