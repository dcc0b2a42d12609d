-- `encode_candidates::with_cell` meets its contract. Assumes nothing.
use Rattle.encode_candidates.specs.Packed.{size_of, cand}
use Rattle.encode_candidates.proofs.Adding.{one_more, cell_adds, no_cell_adds}
use Rattle.encode_candidates.proofs.with_cell.Goals as goal

pub returns-then-cell-ne0 : goal.returns-then-cell-ne0
unfolding cand
returns-then-cell-ne0 c =
    cell_adds c.args.set (size_of c.args.size) c.args.cell c.requires.set_bound c.if-cell-ne0.true (one_more _ _ _ c.push.ensures)

pub returns-else-cell-ne0 : goal.returns-else-cell-ne0
returns-else-cell-ne0 c = no_cell_adds _ c.args.set (size_of c.args.size) c.args.cell c.if-cell-ne0.false
