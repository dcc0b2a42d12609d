-- `tables_reverse::kanji_symbol_reverse` meets its contract. The invariant: nothing is found before the cell. Assumes nothing.
use mathlib.Core.List.{List}
use Prim.Native.Nat.{ℕ}
use lib.ListN.{drop}
use Rattle.base.specs.First.{first_from}
use Rattle.tables_reverse.specs.Reverse.{kanji_place}
use Rattle.tables_reverse.proofs.PassedLaws.{Passed}
use Rattle.tables_reverse.proofs.kanji_symbol_reverse.Given as goal

-- over every table the search from row 90 on may go on from a cell
abbrev pub Over : ℕ → ℕ → ℕ → Type 0
Over c row cell = (t : List ℕ) → Passed kanji_place c t (first_from kanji_place c 470 8366 (drop 8366 t)) row cell

abbrev pub invariant-loop-cell : goal.invariant-loop-cell
invariant-loop-cell l = Over l.c l.row l.cell

abbrev pub invariant-loop-row : goal.invariant-loop-row
invariant-loop-row l = Over l.c l.row 1
