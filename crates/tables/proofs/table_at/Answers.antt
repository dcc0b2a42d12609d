-- `tables::table_at` meets its contract. Assumes nothing.
use mathlib.Core.Path.{sym, ◌∙◌}
use Rattle.std.proofs.Common.{rules}
use native.Mathlib.Omega.{arith}
use Rattle.tables.proofs.KanjiLaws.{on_grid_lem, off_grid}
use Rattle.tables.proofs.table_at.Goals as goal

pub returns-then-row-eq0 : goal.returns-then-row-eq0
returns-then-row-eq0 c = sym (off_grid c.args.t.now c.args.row c.args.cell (λ p q r s. omega arith))

pub returns : goal.returns
returns c =
    let a = c.args in
    let e = on_grid_lem a.t.now a.row a.cell (omega arith) (omega arith) (omega arith) (omega arith) in
    sym (e ∙ search rules)
