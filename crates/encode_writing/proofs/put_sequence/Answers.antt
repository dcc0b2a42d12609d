-- `encode_writing::put_sequence` meets its contract. The loop's invariant: the bytes passed are written. Assumes nothing.
use mathlib.Core.Path.{refl, ◌∙◌}
use native.Mathlib.Omega.{arith}
use Rattle.lent.proofs.Putting.{put_none, put_long}
use Rattle.encode_writing.proofs.Laws.{further, ended, taken_length}
use Rattle.encode_writing.proofs.put_sequence.Goals as goal

pub loop-x-init : goal.loop-x-init
loop-x-init c = (refl, put_none _ _)

pub put-to-requires : goal.put-to-requires
put-to-requires c =
    omega (arith, c.loop-x.invariant.1.next, taken_length c.loop-x.x-index c.args.q.now)

pub loop-x-preserved : goal.loop-x-preserved
loop-x-preserved c =
    let p = c.put-to.ensures in
    (put_long p ∙ c.loop-x.invariant.0, further c.args.q.now (omega arith) c.loop-x.invariant.1 p)

pub returns : goal.returns
returns c = ended c.args.q.now {k = c.loop-x.x-index} (omega arith) c.loop-x.invariant.1
