-- `key::key` meets its contract: the decoding's answer, handed on. Assumes nothing.
use Prim.Native.Nat.{ℕ, ◌<◌}
use native.Mathlib.Omega.{arith}
use lib.ListN.{get_or}
use Rattle.key.specs.Promises.{lent}
use Rattle.key.proofs.Calls.{decodes, text_inside}
use Rattle.key.proofs.key.Goals as goal

pub finish-requires : goal.finish-requires
finish-requires c =
    let a = c.args in
    let numbers : (k : ℕ) → get_or a.cells.now k 0 < 0x10000 = λ k. omega (arith, c.type_inv.cells k) in
    text_inside (lent a.cells.now a.initial a.width a.input.now a.buffer.now) _ _
    (decodes a.cells.now a.initial a.width a.input.now a.buffer.now numbers _ _ _ c.decode_with-r.auto.text c.decode_with-r.ensures)

pub returns : goal.returns
returns c =
    let a = c.args in
    let numbers : (k : ℕ) → get_or a.cells.now k 0 < 0x10000 = λ k. omega (arith, c.type_inv.cells k) in
    c.finish.ensures (lent a.cells.now a.initial a.width a.input.now a.buffer.now)
    (decodes a.cells.now a.initial a.width a.input.now a.buffer.now numbers _ _ _ c.decode_with-r.auto.text c.decode_with-r.ensures)
