-- `tables_reverse::row_lacks` meets its contract: in rows 1 and 2 marks and overrides stand over the table. Assumes nothing.
use mathlib.Core.Path.{sym, ◌∙◌}
use mathlib.Core.Bool.{false≢true}
use native.Mathlib.Omega.{arith}
use Rattle.tables.specs.Kanji.{table_at, kanji_at}
use Rattle.tables.proofs.KanjiLaws.{rows_3_89}
use Rattle.tables.proofs.MarkLaws.{tested}
use Rattle.tables_reverse.proofs.RowLaws.{plain_row}
use Rattle.tables_reverse.proofs.row_lacks.Goals as goal

pub returns-then-row-gt2 : goal.returns-then-row-gt2
unfolding kanji_at
returns-then-row-gt2 c e cell a b r =
    let t = c.args.t.now in
    c.table_lacks.ensures e cell a b
    (sym (rows_3_89 c.args.row cell (table_at t c.args.row cell) c.if-row-gt2.true c.requires.row_bound) ∙ r)

pub returns-then-is_non_spacing : goal.returns-then-is_non_spacing
returns-then-is_non_spacing c e = absurd (false≢true e)

pub returns-then-is_override : goal.returns-then-is_override
returns-then-is_override c e = absurd (false≢true e)

pub returns : goal.returns
returns c e cell a b r =
    let t = c.args.t.now in
    let m = tested c.args.c c.is_non_spacing.ensures c.if-is_non_spacing.false in
    let o = sym c.is_override.ensures ∙ c.if-is_override.false in
    c.table_lacks-2.ensures e cell a b (plain_row t c.args.row cell c.args.c (omega (arith, c.if-row-gt2.false)) m o r)
