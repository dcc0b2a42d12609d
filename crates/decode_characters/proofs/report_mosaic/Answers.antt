-- `report_mosaic` meets its contract. Assumes nothing.
use native.Mathlib.Omega.{arith}
use Rattle.reading.specs.Characters.{mosaic}
use Rattle.decode_output.proofs.Callers.{room_left, wrote_then, wrote_repeat}
use Rattle.decode_characters.proofs.Did.{did_writes}
use Rattle.decode_characters.proofs.report_mosaic.Goals as goal

pub returns : goal.returns
unfolding mosaic
returns c =
    λ cells t.
    let w = c.issue.ensures t in
    did_writes cells (omega arith) (omega arith) c.requires (wrote_then w (wrote_repeat {n = 1} {k = 0} 0 t _ (room_left c.requires.room w.grew) (omega arith)))
