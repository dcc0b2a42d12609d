-- `bookmark_marks::count` meets its contract. The loop's invariant: the digits counted and those left are all. Assumes nothing.
use native.Mathlib.Omega.{arith}
use Rattle.bookmark_marks.proofs.Digits.{counted_more, counted_none, counted_all}
use Rattle.bookmark_marks.proofs.count.Goals as goal

pub returns-then-w-eq0 : goal.returns-then-w-eq0
returns-then-w-eq0 c =
    (counted_none c.loop-n.invariant c.if-w-eq0.true, c.loop-n.invariant.few)

pub loop-n-preserved : goal.loop-n-preserved
loop-n-preserved c =
    counted_more c.loop-n.invariant c.loop-n-test.true c.if-w-eq0.false

pub returns : goal.returns
returns c =
    (omega (arith, counted_all c.loop-n.invariant c.loop-n-test.false, c.loop-n.invariant.few), omega arith)
