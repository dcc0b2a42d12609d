-- `bookmark_marks::unpack` meets its contract. The loop's invariant: the digits taken stand in their places. Assumes nothing.
use Rattle.bookmark_marks.proofs.Unpacking.{taken_none, taken_more, taken_all}
use Rattle.bookmark_marks.proofs.unpack.Goals as goal

pub loop-k-init : goal.loop-k-init
loop-k-init c =
    taken_none c.args.waiting c.count-k.result c.count-k.ensures.0 c.count-k.ensures.1

pub loop-k-preserved : goal.loop-k-preserved
loop-k-preserved c =
    taken_more c.loop-k.invariant c.loop-k-test.true c.mark_of.result c.mark_of.ensures

pub returns : goal.returns
returns c =
    taken_all c.loop-k.invariant c.loop-k-test.false
