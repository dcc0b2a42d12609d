-- `tables_reverse::kanji_reverse` meets its contract. The invariant: nothing is found before the cell. Assumes nothing.
use mathlib.Core.List.{List}
use Prim.Native.Nat.{ℕ}
use Rattle.base.specs.First.{first_from}
use Rattle.tables_reverse.specs.Reverse.{kanji_place}
use Rattle.tables_reverse.proofs.PassedLaws.{Passed}
use Rattle.tables_reverse.proofs.kanji_reverse.Given as goal

-- the search of the whole table may go on from a cell
abbrev pub On : List ℕ → ℕ → ℕ → ℕ → Type 0
On t c row cell = Passed kanji_place c t (first_from kanji_place c 8836 0 t) row cell

abbrev pub invariant-loop-cell : goal.invariant-loop-cell
invariant-loop-cell l = On l.t l.c l.row l.cell

abbrev pub invariant-loop-row : goal.invariant-loop-row
invariant-loop-row l = On l.t l.c l.row 1
