-- `addsym::index` meets its contract. Assumes nothing.
use native.Mathlib.Omega.{arith}
use Rattle.addsym.proofs.Cells.{in_cells, off_cells}
use Rattle.addsym.proofs.index.Goals as goal

pub returns-in_err-place : goal.returns-in_err-place
returns-in_err-place c = rw c.from_residual.ensures (λ cells. off_cells cells c.args.row c.args.cell (λ p a b. omega (arith, c.in_err-place.ensures)))

pub returns-then-cell-eq0 : goal.returns-then-cell-eq0
returns-then-cell-eq0 c cells = off_cells cells c.args.row c.args.cell (λ p a b. omega arith)

pub returns : goal.returns
returns c =
    let a = c.args in
    let p = c.in_ok-place.ensures in
    let e = p.0 in
    (omega (arith, p.1), λ cells. rw e (in_cells cells a.row a.cell (omega (arith, p.1, p.0)) (omega arith) (omega arith)))
