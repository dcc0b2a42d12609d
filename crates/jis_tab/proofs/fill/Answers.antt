-- `fill` meets its contract, in each of the three cases of `jis.tab`. Assumes nothing.
use Rattle.jis_tab.proofs.Table.{filled_absent, filled_whole, filled_not}
use Rattle.jis_tab.proofs.fill.Goals as goal

pub returns-then-not-present : goal.returns-then-not-present
returns-then-not-present c =
    rw c.if-not-present.true (filled_absent _ _ _ c.numbers.ensures)

pub returns-then-bytes-eq17672 : goal.returns-then-bytes-eq17672
returns-then-bytes-eq17672 c =
    rw c.if-not-present.false (filled_whole _ _ _ c.numbers-2.ensures c.if-bytes-eq17672.true)

pub returns : goal.returns
returns c =
    rw c.if-not-present.false (filled_not _ _ _ c.if-bytes-eq17672.false)
