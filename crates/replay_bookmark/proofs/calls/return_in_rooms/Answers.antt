-- `return_in_rooms` is safe: the stated lengths are within the rooms. Assumes nothing.
use mathlib.Core.Path.{sym}
use native.Mathlib.Omega.{arith}
use lib.Seq.{length-take-le}
use Rattle.replay_bookmark.proofs.calls.return_in_rooms.Goals as goal

pub slice_bounds-return_to-end : goal.slice_bounds-return_to-end
slice_bounds-return_to-end c =
    sym (length-take-le c.args.case.text_room c.byte_room-text.result (omega (arith, c.byte_room-text.ensures)))

pub slice_bounds-return_to-end-2 : goal.slice_bounds-return_to-end-2
slice_bounds-return_to-end-2 c =
    sym (length-take-le c.args.case.issue_room c.number_room-issues.result (omega (arith, c.number_room-issues.ensures)))
