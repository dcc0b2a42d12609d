-- `tables_reverse::table_lacks` meets its contract. Assumes nothing.
use mathlib.Core.Path.{sym, ◌∙◌}
use Prim.Native.Nat.{◌+◌, ◌*◌, ◌-◌}
use native.Mathlib.Omega.{arith}
use borrow.Author.Tests.{not-true}
use Rattle.tables.specs.Kanji.{place}
use Rattle.tables.proofs.KanjiLaws.{on_grid_lem}
use Rattle.tables_reverse.proofs.RowLaws.{absent, in_part}
use Rattle.tables_reverse.proofs.table_lacks.Goals as goal

pub returns-then-c-gt65535 : goal.returns-then-c-gt65535
returns-then-c-gt65535 c e cell a b r =
    let q = on_grid_lem c.args.t.now c.args.row cell c.requires.le_row (omega (arith, c.requires.row_bound)) a b in
    omega (arith, q, r, c.type_inv.t (place c.args.row cell), c.if-c-gt65535.true)

pub returns : goal.returns
returns c e cell a b r =
    let t = c.args.t.now in
    let q = on_grid_lem t c.args.row cell c.requires.le_row (omega (arith, c.requires.row_bound)) a b in
    let f = (c.args.row - 1) * 94 in
    in_part t f (f + 96 - f) c.args.c (cell - 1) (omega (arith, c.if-t-from.false)) (omega arith)
    (absent _ c.args.c (sym c.among.ensures ∙ not-true c.among.result e)) (sym q ∙ r)
