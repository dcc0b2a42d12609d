-- `runs_to` meets its contract. The invariant: what was run so far. Assumes nothing.
use mathlib.Core.Path.{refl}
use Rattle.decode_runs.proofs.Runs.{running_more}
use Rattle.decode_runs.proofs.runs_to.Goals as goal

pub returns-then-at-plain : goal.returns-then-at-plain
returns-then-at-plain c =
    (running_more c.requires.at_le_end.1 c.loop-reached.invariant refl refl c.is_narrow.ensures c.run-plain.ensures.run c.other-more.ensures.run
    c.controls-at.ensures c.run-plain.auto.text c.other-more.auto.text (c.other-more.ensures.room _ c.run-plain.ensures.room)).runs

pub loop-reached-preserved : goal.loop-reached-preserved
loop-reached-preserved c =
    running_more c.requires.at_le_end.1 c.loop-reached.invariant refl refl c.is_narrow.ensures c.run-plain.ensures.run c.other-more.ensures.run
    c.controls-at.ensures c.run-plain.auto.text c.other-more.auto.text (c.other-more.ensures.room _ c.run-plain.ensures.room)
