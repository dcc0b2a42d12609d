-- `kanji_at` meets its contract. Assumes nothing.
use Prim.Native.Nat.{ℕ, ◌+◌, ◌-◌, ◌*◌, ◌%◌, ◌≤◌, ◌<◌}
use mathlib.Core.Path.{◌≡◌, refl}
use mathlib.Core.Bool.{Bool, true, false}
use native.Mathlib.Omega.{arith}
use lib.ListN.{get_or}
use Rattle.std.specs.Prelude.{IfSome}
use Rattle.std.specs.Bool.{then_some}
use Rattle.private_use.proofs.Laws.{below}
use Rattle.decode_letters.specs.Promises.{Ideograph}
use Rattle.decode_letters.proofs.Spelling.{ideograph}
use Rattle.decode_letters.proofs.kanji_at.Goals as goal

where_true : (u : Bool) (x : ℕ) (P : ℕ → Type 0) → (u ≡ true → P x) → IfSome (then_some u x) P
where_true true x P f = f refl
where_true false x P f = tt

pub returns : goal.returns
returns c =
    let a = c.args in
    let x = get_or a.b.now a.i 0 in
    let y = get_or a.b.now (a.i + 1) 0 in
    let l = get_or a.cells.now ((x % 128 - 0x21) * 94 + (y % 128 - 0x21)) 0 in
    let byte : x < 256 = omega (arith, c.type_inv.b a.i) in
    let next : y < 256 = omega (arith, c.type_inv.b (a.i + 1)) in
    let row : 0x23 ≤ x % 128 = grind arith in
    let row-end : x % 128 ≤ 0x74 = grind arith in
    let cell : 0x21 ≤ y % 128 = grind arith in
    let cell-end : y % 128 ≤ 0x7E = grind arith in
    let found : c.if-matches-5.matches ≡ true → Ideograph a.cells.now a.b.now a.i l =
    λ q.
    let from : 0x3000 ≤ l = grind arith in
    let to : l < 0xE000 = grind arith in
    let small : l < 0x10000 = omega arith in
    ideograph a.cells.now a.b.now a.i byte next c.if-i-b.false c.if-x-y.false row row-end cell cell-end from (below _ to) small
    in
    rw c.then_some.ensures (where_true c.if-matches-5.matches l (Ideograph a.cells.now a.b.now a.i) found)
