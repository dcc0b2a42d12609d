-- `locking_shift` meets its contract: each comparison with a shift's bytes says whether f is its final byte. Assumes nothing.
use mathlib.Core.Path.{refl}
use Rattle.decode_controls.proofs.Escapes.{not_final, is_final_lem, shift_ls2, shift_ls3, shift_ls1r, shift_ls2r, shift_ls3r, shift_none}
use Rattle.decode_controls.proofs.locking_shift.Goals as goal

pub returns-then-is : goal.returns-then-is
returns-then-is c = shift_ls2 _ (is_final_lem _ 0x6E refl c.is.ensures c.if-is.true)

pub returns-then-is-2 : goal.returns-then-is-2
returns-then-is-2 c = shift_ls3 _ (is_final_lem _ 0x6F refl c.is-2.ensures c.if-is-2.true)

pub returns-then-is-3 : goal.returns-then-is-3
returns-then-is-3 c = shift_ls1r _ (is_final_lem _ 0x7E refl c.is-3.ensures c.if-is-3.true)

pub returns-then-is-4 : goal.returns-then-is-4
returns-then-is-4 c = shift_ls2r _ (is_final_lem _ 0x7D refl c.is-4.ensures c.if-is-4.true)

pub returns-then-is-5 : goal.returns-then-is-5
returns-then-is-5 c = shift_ls3r _ (is_final_lem _ 0x7C refl c.is-5.ensures c.if-is-5.true)

pub returns-else-is-5 : goal.returns-else-is-5
returns-else-is-5 c =
    shift_none _
    (not_final _ 0x6E refl c.is.ensures c.if-is.false)
    (not_final _ 0x6F refl c.is-2.ensures c.if-is-2.false)
    (not_final _ 0x7E refl c.is-3.ensures c.if-is-3.false)
    (not_final _ 0x7D refl c.is-4.ensures c.if-is-4.false)
    (not_final _ 0x7C refl c.is-5.ensures c.if-is-5.false)
