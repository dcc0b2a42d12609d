-- `character` meets its contract, by the byte. Assumes nothing.
use Prim.Native.Nat.{◌<◌, ◌≤◌, ◌%◌}
use native.Mathlib.Omega.{arith}
use lib.ListN.{get_or}
use Rattle.decode_letters.proofs.Spelling.{graphic_is, takes_space, takes_newline}
use Rattle.decode_letters.proofs.character.Goals as goal

pub graphic-requires : goal.graphic-requires
graphic-requires c =
    let a = c.args in
    let byte : get_or a.b.now a.i 0 < 256 = omega (arith, c.type_inv.b a.i) in
    let low : 0x21 ≤ get_or a.b.now a.i 0 % 128 = grind arith in
    let high : get_or a.b.now a.i 0 % 128 ≤ 0x7E = grind arith in
    (c.requires.0, c.requires.1, graphic_is _ low high byte)

pub returns-in-32 : goal.returns-in-32
returns-in-32 c =
    let a = c.args in
    takes_space a.cells.now a.b.now a.i a.to a.sets c.requires.0 c.in-32.is c.space.ensures

pub returns-in-13 : goal.returns-in-13
returns-in-13 c =
    let a = c.args in
    takes_newline a.cells.now a.b.now a.i a.to a.sets c.requires.0 c.in-13.is
