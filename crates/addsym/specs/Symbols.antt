-- The additional symbols set: what `additional_symbol` answers at a row and a cell.
use Rattle.std.specs.Prelude.{ℕ, suc, ◌+◌, ◌*◌, ◌-◌, ◌≤◌, List, [], ◌∷◌, Bool, cond, ◌&&◌, ◌≡◌, refl, eqb, leb, ltb, get_or, Option, Some, None}
use Rattle.addsym.specs.Table719.{numbers, rows, Replacement, replacements}
use Rattle.addsym.specs.declared.AdditionalSymbol.{AdditionalSymbol}

-- The place of a number in a list, and the list's length where it is not there.
unfoldable pub place_in : List ℕ → ℕ → ℕ
place_in [] n = 0
place_in (x ∷ xs) n = cond (eqb n x) 0 (suc (place_in xs n))

-- The place of a row among the seven of Table 7-19, and 7 for any other row.
unfoldable pub row_place : ℕ → ℕ
unfolding place_in
row_place row = place_in numbers row

-- Table 7-19's value: 0 for a blank cell, and for a row or a cell that is not there. Cells are counted from 1, so a 0
-- stands before the first.
unfoldable pub table719 : ℕ → ℕ → ℕ
unfolding row_place
table719 row cell = get_or (0 ∷ get_or rows (row_place row) []) cell 0

-- Is the cell one of those that the replacement is for?
abbrev pub covers : Replacement → ℕ → ℕ → Bool
covers r row cell = eqb r.row row && leb r.first cell && leb cell r.last

-- The code point of the first replacement for the cell, or Table 7-19's value where there is none.
unfoldable pub replaced_by : List Replacement → ℕ → ℕ → ℕ
unfolding table719
replaced_by [] row cell = table719 row cell
replaced_by (r ∷ rs) row cell = cond (covers r row cell) (r.code + (cell - r.first)) (replaced_by rs row cell)

-- The Unicode scalar of a row and a cell; 0 where Table 7-19 is blank.
unfoldable pub symbol : ℕ → ℕ → ℕ
unfolding table719 replaced_by
symbol row cell = cond (eqb (table719 row cell) 0) 0 (replaced_by replacements row cell)

-- What an answer of `additional_symbol` says of a row and a cell: the value of Table 7-19 and the scalar, or that the table is blank there.
abbrev pub FoundReads : Option AdditionalSymbol → ℕ → ℕ → Type 0
FoundReads (Some s) row cell = (s ≡ record { row = row; cell = cell; table_7_19 = table719 row cell; unicode = symbol row cell }) × (1 ≤ table719 row cell)
FoundReads None row cell = table719 row cell ≡ 0

-- The number at a row and a cell of a list of the seven rows, row by row; 0 outside them.
unfoldable pub cell_in : List ℕ → ℕ → ℕ → ℕ
unfolding row_place
cell_in cells row cell =
    cond (ltb (row_place row) 7 && leb 1 cell && leb cell 94) (get_or cells (row_place row * 94 + cell - 1) 0) 0

-- A list of the symbols of all the cells.
abbrev pub SymbolsIn : List ℕ → Type 0
SymbolsIn cells = (row cell : ℕ) → cell_in cells row cell ≡ symbol row cell

-- Worked: cell 85-1 as Table 7-19 has it, 85-2 by Table 7-11, the last of a range, a duplicate, a private use value that
-- stays; a blank cell, a cell and a row that are not there.
worked : symbol 85 1 ∷ symbol 85 2 ∷ symbol 94 58 ∷ symbol 92 7 ∷ symbol 92 26 ∷ symbol 90 7 ∷ symbol 90 0 ∷ symbol 94 95 ∷ symbol 87 1 ∷ []
    ≡ 0x3402 ∷ 0x20158 ∷ 0x1F129 ∷ 0x5E74 ∷ 0xE290 ∷ 0 ∷ 0 ∷ 0 ∷ 0 ∷ []
unfolding symbol
worked = refl
