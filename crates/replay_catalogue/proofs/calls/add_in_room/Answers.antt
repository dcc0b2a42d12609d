-- `add_in_room` is safe: the stated length is within the room. Assumes nothing.
use mathlib.Core.Path.{sym}
use native.Mathlib.Omega.{arith}
use lib.Seq.{length-take-le}
use Rattle.replay_catalogue.proofs.calls.add_in_room.Goals as goal

pub slice_bounds-add-end : goal.slice_bounds-add-end
slice_bounds-add-end c = sym (length-take-le _ _ (omega (arith, c.byte_room-buffer.ensures)))
