-- `encode_find::gap_of` meets its contract: the floor by its two cases. Assumes nothing.
use Rattle.encode_find.proofs.Planning.{gap_none, gap_some, gap_over}
use Rattle.encode_find.proofs.gap_of.Goals as goal

pub returns-then-floor-eq0 : goal.returns-then-floor-eq0
returns-then-floor-eq0 c = gap_none _ _ c.if-floor-eq0.true

pub returns-then-least-length : goal.returns-then-least-length
returns-then-least-length c = gap_some _ _ c.if-floor-eq0.false

pub returns : goal.returns
returns c = gap_over _ _ c.if-floor-eq0.false c.if-least-length.false
