-- `tables::kanji_at` meets its contract. Assumes nothing.
use mathlib.Core.Path.{sym, ap, ◌∙◌}
use native.Mathlib.Omega.{arith}
use Prim.Native.Nat.{ℕ}
use Rattle.std.specs.Prelude.{Option, unwrap_or}
use Rattle.tables.specs.Kanji.{non_spacing, jis_x0208_at, table_at, kanji_at}
use Rattle.tables.proofs.KanjiLaws.{table_row, past_table, assigned_find, rows_1_2, rows_90_94, past_rows}
use Rattle.tables.proofs.kanji_at.Goals as goal

pub returns-then-in_table : goal.returns-then-in_table
returns-then-in_table c =
    let a = c.args in
    c.table_at.ensures ∙ sym (table_row a.t.now a.row a.cell (sym c.in_table.ensures ∙ c.if-in_table.true))

pub returns-in-Some : goal.returns-in-Some
unfolding kanji_at jis_x0208_at
returns-in-Some c =
    let a = c.args in
    let x = table_at a.t.now a.row a.cell in
    let y = jis_x0208_at a.t.now a.row a.cell in
    ap (λ (o : Option ℕ). unwrap_or o y) (sym c.in-Some.is ∙ c.assigned_at.ensures)
    ∙ assigned_find non_spacing a.row a.cell y ∙ sym (rows_1_2 a.row a.cell x c.if-row-lt3.true)

pub returns-then-row-lt3 : goal.returns-then-row-lt3
unfolding kanji_at jis_x0208_at
returns-then-row-lt3 c =
    let a = c.args in
    let x = table_at a.t.now a.row a.cell in
    let y = jis_x0208_at a.t.now a.row a.cell in
    c.jis_x0208_at.ensures ∙ ap (λ (o : Option ℕ). unwrap_or o y) (sym c.in_default.is ∙ c.assigned_at.ensures)
    ∙ assigned_find non_spacing a.row a.cell y ∙ sym (rows_1_2 a.row a.cell x c.if-row-lt3.true)

pub returns-then-row-lt95 : goal.returns-then-row-lt95
unfolding kanji_at
returns-then-row-lt95 c =
    let a = c.args in
    let h = past_table a.row (sym c.in_table.ensures ∙ c.if-in_table.false) c.if-row-lt3.false in
    c.kanji_symbol_at.ensures ∙ sym (rows_90_94 a.row a.cell (table_at a.t.now a.row a.cell) h (omega arith))

pub returns : goal.returns
returns c =
    let a = c.args in
    sym (past_rows a.t.now a.row a.cell (omega arith))
