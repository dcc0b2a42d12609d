-- `tables_reverse::additional_reverse` meets its contract. The invariant: nothing is found before the cell. Assumes nothing.
use mathlib.Core.List.{[]}
use Rattle.base.specs.First.{first_from}
use Rattle.tables_reverse.specs.Reverse.{symbol_place}
use Rattle.tables_reverse.proofs.PassedLaws.{Passed}
use Rattle.tables_reverse.proofs.additional_reverse.Given as goal

abbrev pub invariant-loop-cell : goal.invariant-loop-cell
invariant-loop-cell l = Passed symbol_place l.c [] (first_from symbol_place l.c 8836 0 []) l.row l.cell

abbrev pub invariant-loop-row : goal.invariant-loop-row
invariant-loop-row l = Passed symbol_place l.c [] (first_from symbol_place l.c 8836 0 []) l.row 1
