-- `questions::clear` meets its contract: the part from `from` on is filled. Assumes nothing.
use mathlib.Core.Path.{sym}
use Rattle.questions.proofs.Buffers.{filled, clear_end}
use Rattle.questions.proofs.clear.Goals as goal

pub fill-requires : goal.fill-requires
fill-requires g c = (g.met.T.Zero.copied _).0

pub returns-then-from-d : goal.returns-then-from-d
returns-then-from-d g c =
    filled _ _ _ _ _ c.if-from-d.true c.ZERO.ensures (c.fill.ensures.after (g.met.T.Zero.copied _).1)

pub returns-else-from-d : goal.returns-else-from-d
returns-else-from-d g c = sym (clear_end _ _ _ c.if-from-d.false)
