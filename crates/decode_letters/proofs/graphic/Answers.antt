-- `graphic` meets its contract. Assumes nothing.
use Prim.Native.Nat.{◌<◌}
use mathlib.Core.Path.{sym, ◌∙◌}
use native.Mathlib.Omega.{arith}
use lib.ListN.{get_or}
use Rattle.decode_letters.proofs.Spelling.{takes_letter, takes_pair}
use Rattle.decode_letters.proofs.graphic.Goals as goal

pub returns-then-two_bytes : goal.returns-then-two_bytes
returns-then-two_bytes c =
    let a = c.args in
    let x : get_or a.b.now a.i 0 < 256 = omega (arith, c.type_inv.b a.i) in
    takes_pair a.cells.now a.b.now a.i a.to a.sets c.requires.0 x c.set_of-set.ensures c.pair_at.result
    (sym c.two_bytes.ensures ∙ c.if-two_bytes.true) c.pair_at.ensures

pub returns-in-Some : goal.returns-in-Some
returns-in-Some c =
    let a = c.args in
    let x : get_or a.b.now a.i 0 < 256 = omega (arith, c.type_inv.b a.i) in
    takes_letter a.cells.now a.b.now a.i a.to a.sets c.requires.0 x c.set_of-set.ensures c.in-Some.ensures.0 c.in-Some.ensures.1
