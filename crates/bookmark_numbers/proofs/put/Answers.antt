-- `put` meets its contract: the parts of the numbers stand one behind the other. Assumes nothing.
use Rattle.lent.proofs.Putting.{put_then, put_as}
use Rattle.bookmark_numbers.proofs.Putting.{numbers_parts}
use Rattle.bookmark_numbers.proofs.put.Goals as goal

pub returns : goal.returns
returns c =
    λ g t₀ i₀ t i s h a few.
    put_as (numbers_parts c.args.place h a few)
    (put_then (put_then (put_then (put_then (rw c.front_of-front.ensures at c.put_all-n.ensures) (rw c.unpack-marks.ensures at c.put_all-n-2.ensures))
    (rw c.starts.ensures at c.put_all-n-3.ensures)) (rw c.lens.ensures at c.put_all-n-4.ensures))
    c.put_all.ensures)
