-- `addsym::additional_symbol` meets its contract: antt computes the list of the definition's 658 values, and the table is
-- that list. Assumes nothing.
use mathlib.Core.Path.{sym, ◌∙◌}
use Rattle.addsym.specs.Symbols.{table719}
use Rattle.addsym.proofs.Places.{values, found}
use Rattle.addsym.proofs.Cells.{table_in}
use Rattle.addsym.proofs.additional_symbol.Goals as goal

pub returns-in_err-table_7_19 : goal.returns-in_err-table_7_19
returns-in_err-table_7_19 c = rw c.from_residual.ensures (sym (table_in c.args.row c.args.cell) ∙ c.in_err-table_7_19.ensures (values table719))

pub returns-then-table_7_19-eq0 : goal.returns-then-table_7_19-eq0
unfolding table719
returns-then-table_7_19-eq0 c =
    sym (table_in c.args.row c.args.cell) ∙ c.in_ok-table_7_19.ensures.1 (values table719) ∙ c.if-table_7_19-eq0.true

pub returns : goal.returns
unfolding table719
returns c =
    found _ _ _ _ (sym (c.in_ok-table_7_19.ensures.1 (values table719)) ∙ table_in c.args.row c.args.cell) c.scalar.ensures c.if-table_7_19-eq0.false
