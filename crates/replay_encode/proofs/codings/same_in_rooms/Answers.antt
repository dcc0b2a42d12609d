-- `same_in_rooms` is safe: the stated lengths are within the rooms. Assumes nothing.
use mathlib.Core.Path.{sym}
use native.Mathlib.Omega.{arith}
use lib.Seq.{length-take-le}
use Rattle.replay_encode.proofs.codings.same_in_rooms.Goals as goal

pub slice_bounds-same-end : goal.slice_bounds-same-end
slice_bounds-same-end c =
    sym (length-take-le c.args.case.store_room c.number_room-store.result (omega (arith, c.number_room-store.ensures)))

pub slice_bounds-same-end-2 : goal.slice_bounds-same-end-2
slice_bounds-same-end-2 c =
    sym (length-take-le c.args.case.coding_room c.byte_room-bytes.result (omega (arith, c.byte_room-bytes.ensures)))
