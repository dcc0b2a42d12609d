-- `issue_line` meets its contract: the numbers behind the first that are left are still to be put. Assumes nothing.
use native.Mathlib.Omega.{arith}
use Rattle.lent.proofs.Putting.{put_as, put_then, rest_all}
use Rattle.listing_form.proofs.Lines.{line_as, line_turn, line_end}
use Rattle.listing_form.proofs.issue_line.Goals as goal

pub overflow_cast-issue : goal.overflow_cast-issue
overflow_cast-issue c = omega (arith, c.type_inv.issue 0)

pub loop-i-init : goal.loop-i-init
loop-i-init c = (omega (arith, c.decimal-next.ensures.upper_bound), rest_all _ _ _)

pub word-next-requires : goal.word-next-requires
word-next-requires c = omega (arith, c.loop-i.invariant.0, c.requires)

pub overflow_cast-issue-in-loop-i : goal.overflow_cast-issue-in-loop-i
overflow_cast-issue-in-loop-i c = omega (arith, c.type_inv.issue c.loop-i.i)

pub decimal-next-requires-in-loop-i : goal.decimal-next-requires-in-loop-i
decimal-next-requires-in-loop-i c = omega (arith, c.word-next.ensures.next, c.loop-i.invariant.0, c.requires)

pub loop-i-preserved : goal.loop-i-preserved
loop-i-preserved c =
    let inv = c.loop-i.invariant in (
      omega (arith, c.decimal-next-in-loop-i.ensures.upper_bound, c.word-next.ensures.next, inv.0),
      line_turn _ _ inv.1 c.loop-i-test.true c.word-next.ensures c.decimal-next-in-loop-i.ensures.put,
    )

pub word-requires : goal.word-requires
word-requires c = omega (arith, c.loop-i.invariant.0, c.requires)

pub returns : goal.returns
returns c =
    let inv = c.loop-i.invariant in
    let rest = line_end _ _ inv.1 c.loop-i-test.false c.word.ensures in
    record {
      put = put_as (line_as _ c.requires.1) (put_then c.decimal-next.ensures.put rest);
      upper_bound = omega (arith, c.word.ensures.next, inv.0);
    }
