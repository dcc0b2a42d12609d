-- `bookmark_marks::restore` meets its contract. The loop's invariant: the marks gone over wait. Assumes nothing.
use Prim.Native.Nat.{◌<◌}
use native.Mathlib.Omega.{arith}
use lib.ListN.{get_or}
use Rattle.bookmark_marks.proofs.Restoring.{
  length_marks,
  mark_at,
  mark_kept,
  restored_none,
  restored_room,
  restored_more,
  restored_all,
  restored_len,
  restored_issues,
  restored_private,
  restored_length,
}
use Rattle.bookmark_marks.proofs.restore.Goals as goal

pub loop-mark-init : goal.loop-mark-init
loop-mark-init c =
    restored_none c.args.text.now c.args.l.now c.start-out.ensures

pub mark-out-requires : goal.mark-out-requires
mark-out-requires c =
    let l = c.args.l.now in
    let k = c.loop-mark.mark-index in
    let less : k < get_or l 10 0 = omega (arith, c.loop-mark-test.true, length_marks l c.requires.0 c.requires.2) in
    record { room = restored_room c.loop-mark.invariant (omega (arith, less, c.requires.2)); m_value = mark_kept l c.requires.3 k less }

pub loop-mark-preserved : goal.loop-mark-preserved
loop-mark-preserved c =
    let l = c.args.l.now in
    let k = c.loop-mark.mark-index in
    let less : k < get_or l 10 0 = omega (arith, c.loop-mark-test.true, length_marks l c.requires.0 c.requires.2) in
    restored_more c.loop-mark.invariant c.requires.0 (omega (arith, less, c.requires.2)) less (mark_at l k less)
    (mark_kept l c.requires.3 k less) c.mark-out.ensures

pub shape_of-text : goal.shape_of-text
shape_of-text c =
    restored_length c.loop-mark.invariant

pub returns : goal.returns
returns c =
    let h = c.loop-mark.invariant in
    let n = length_marks c.args.l.now c.requires.0 c.requires.2 in
    let b = c.requires.2 in record { by_index = restored_all h (omega (arith, c.loop-mark-test.false, n)); len_value = (restored_len h, omega (arith, h.most, h.inside, b), restored_issues h, restored_private h, c.requires.1) }
