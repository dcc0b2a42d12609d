-- What the two-byte sets read at a place in row order. Assumes nothing.
use mathlib.Core.Path.{◌≡◌, sym, ap, ◌∙◌}
use mathlib.Core.Bool.{true, false}
use mathlib.Core.List.{List}
use mathlib.Core.Option.{some}
use Prim.Native.Nat.{ℕ, ◌+◌, ◌/◌, ◌%◌, ◌≤◌}
use native.Mathlib.Omega.{arith}
use lib.ListN.{get_or}
use Rattle.addsym.specs.Symbols.{symbol}
use Rattle.tables.specs.Kanji.{place, gap, table_at, kanji_symbol, kanji_of, kanji_at}
use Rattle.tables.proofs.KanjiLaws.{on_grid_lem, rows_90_94}
use Rattle.tables_reverse.specs.Reverse.{kanji_place, symbol_place, place_of}

-- the place of a cell gives its row and its cell back
row_of_lem : (row cell : ℕ) → 1 ≤ row → 1 ≤ cell → cell ≤ 94 → place row cell / 94 + 1 ≡ row
row_of_lem row cell a b c = omega arith

cell_of : (row cell : ℕ) → 1 ≤ cell → cell ≤ 94 → place row cell % 94 + 1 ≡ cell
cell_of row cell b c = omega arith

module _ (row cell : ℕ) (a : 1 ≤ row) (b : row ≤ 94) (c : 1 ≤ cell) (d : cell ≤ 94) where
  pub kanji_place_lem : (t : List ℕ) → kanji_place (place row cell) (get_or t (place row cell) 0) ≡ kanji_at t row cell
  unfolding kanji_place kanji_at
  kanji_place_lem t =
      ap (λ (r : ℕ). kanji_of r (place row cell % 94 + 1) (get_or t (place row cell) 0)) (row_of_lem row cell a c d)
      ∙ ap (λ (k : ℕ). kanji_of row k (get_or t (place row cell) 0)) (cell_of row cell c d)
      ∙ ap (kanji_of row cell) (sym (on_grid_lem t row cell a b c d))

  pub symbol_place_lem : (x : ℕ) → symbol_place (place row cell) x ≡ symbol row cell
  unfolding symbol_place
  symbol_place_lem x =
      ap (λ (r : ℕ). symbol r (place row cell % 94 + 1)) (row_of_lem row cell a c d) ∙ ap (symbol row) (cell_of row cell c d)

  pub place_of_lem : place_of (some (place row cell)) ≡ some (row, cell)
  unfolding place_of
  place_of_lem = λ i. some (row_of_lem row cell a c d i, cell_of row cell c d i)

-- in rows 90 to 94 it is the symbol's, but for the gaps
pub symbol_cell : (t : List ℕ) (row cell : ℕ) → 90 ≤ row → row ≤ 94 → 1 ≤ cell → cell ≤ 94 → kanji_place (place row cell) (get_or t (place row cell) 0) ≡ kanji_symbol row cell
unfolding kanji_at
symbol_cell t row cell a b c d = kanji_place_lem row cell (omega arith) b c d t ∙ rows_90_94 row cell (table_at t row cell) a b

pub in_gap : (row cell : ℕ) → gap row cell ≡ true → kanji_symbol row cell ≡ 0
unfolding kanji_symbol
in_gap row cell e = rw e

pub off_gap : (row cell : ℕ) → gap row cell ≡ false → kanji_symbol row cell ≡ symbol row cell
unfolding kanji_symbol
off_gap row cell e = rw e
