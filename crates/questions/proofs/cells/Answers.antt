-- `questions::cells` meets its contract: the four parts together are question 1. Assumes nothing.
use mathlib.Core.Path.{sym, ◌∙◌}
use native.Mathlib.Omega.{arith}
use lib.Seq.{length-take-le}
use mathlib.Core.Bool.{◌&&◌}
use Rattle.questions.proofs.CellTable.{parts, not_long}
use Rattle.questions.proofs.cells.Goals as goal

pub returns-then-t-ne-CELLS : goal.returns-then-t-ne-CELLS
returns-then-t-ne-CELLS c = not_long _ c.if-t-ne-CELLS.true

pub slice_bounds-scalars-end : goal.slice_bounds-scalars-end
slice_bounds-scalars-end c = sym (length-take-le 752 c.args.t.now (omega arith))

pub returns : goal.returns
returns c =
    (λ i. c.scalars.ensures i && c.empty.ensures i && c.scalars-2.ensures i && c.empty-2.ensures i)
    ∙ parts _ c.if-t-ne-CELLS.false
