-- `report` meets its contract. The invariant: the place and the first i numbers are put. Assumes nothing.
use mathlib.Core.Path.{◌∙◌}
use Rattle.lent.proofs.Stores.{sets_more}
use Rattle.text_counts.proofs.report.Goals as goal

pub loop-i-preserved : goal.loop-i-preserved
loop-i-preserved c = c.put-in-loop-i.ensures ∙ sets_more _ _ _ _ _ c.loop-i-test.true c.loop-i.invariant
