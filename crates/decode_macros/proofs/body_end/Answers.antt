-- `body_end` meets its contract. The invariant: as far as from `from` on, it is from j on. Assumes nothing.
use native.Mathlib.Omega.{arith}
use Rattle.decode_macros.proofs.Laws.{end_here_two, end_past_two, end_none}
use Rattle.decode_macros.proofs.body_end.Goals as goal

pub returns-then-ends : goal.returns-then-ends
returns-then-ends c =
    omega (arith, end_here_two c.args.b.now c.loop-j.j (omega arith) (omega arith) c.starts_with-ends.ensures.value c.if-ends.true)

pub loop-j-preserved : goal.loop-j-preserved
loop-j-preserved c =
    (omega arith, omega (arith, end_past_two c.args.b.now c.loop-j.j (omega arith) (omega arith) c.starts_with-ends.ensures.value c.if-ends.false))

pub returns : goal.returns
returns c =
    omega (arith, end_none c.args.b.now c.loop-j.j c.loop-j.invariant.0 (omega arith))
