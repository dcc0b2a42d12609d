-- What the two-byte sets read at a row and a cell, over a lent table of JIS X 0208. Rows and cells are counted from 1.
use Rattle.std.specs.Prelude.{ℕ, ◌+◌, ◌*◌, ◌-◌, ◌≤◌, Bool, true, false, cond, ◌&&◌, ◌||◌, List, [], ◌∷◌, ◌≡◌, refl, eqb, leb, get_or, Option as Answer, Some, None}
use Rattle.std.proofs.Math.Option.{Option, none, some}
use Rattle.private_use.specs.PrivateUse.{is_private_use}
use Rattle.addsym.specs.Symbols.{symbol}
use Rattle.tables.specs.declared.Assignment.{Assignment}
use Rattle.tables.specs.declared.Cell.{Cell}
use Rattle.tables.specs.declared.Cell.TheVariants.{Char, PrivateUse, Undefined}

-- what an answer says of the character x of a cell, 0 where the cell has none: "undefined, an ordinary character or a private-use one" (request 6 of
-- docs/REQUESTS.md)
abbrev pub CellReads : Cell → ℕ → Type 0
CellReads (Char c) x = (x ≡ c) × (1 ≤ c) × (is_private_use c ≡ false)
CellReads (PrivateUse c) x = (x ≡ c) × (is_private_use c ≡ true)
CellReads Undefined x = x ≡ 0

-- the case that an answer names is that of its character
abbrev pub Classed : Cell → Type 0
Classed (Char c) = is_private_use c ≡ false
Classed (PrivateUse c) = is_private_use c ≡ true
Classed Undefined = Unit {0}

-- `NON_SPACING`: the seven combining marks (Table E-1)
abbrev pub non_spacing : List Assignment
non_spacing =
    record { row = 1; cell = 13; character = 0x301 } ∷ record { row = 1; cell = 14; character = 0x300 }
    ∷ record { row = 1; cell = 15; character = 0x308 } ∷ record { row = 1; cell = 16; character = 0x302 }
    ∷ record { row = 1; cell = 17; character = 0x305 } ∷ record { row = 1; cell = 18; character = 0x332 }
    ∷ record { row = 2; cell = 94; character = 0x20DD } ∷ []

-- `KANJI_OVERRIDES`: the seven cells that the lent table does not decide (Annex E.1)
abbrev pub kanji_overrides : List Assignment
kanji_overrides =
    record { row = 1; cell = 29; character = 0x2014 } ∷ record { row = 1; cell = 33; character = 0x301C }
    ∷ record { row = 1; cell = 34; character = 0x2016 } ∷ record { row = 1; cell = 61; character = 0x2212 }
    ∷ record { row = 1; cell = 81; character = 0xA2 } ∷ record { row = 1; cell = 82; character = 0xA3 }
    ∷ record { row = 2; cell = 44; character = 0xAC } ∷ []

-- the character that a list assigns to a cell, and x where it assigns none
unfoldable pub assigned : List Assignment → ℕ → ℕ → ℕ → ℕ
assigned [] row cell x = x
assigned (a ∷ more) row cell x = cond (eqb a.row row && eqb a.cell cell) a.character (assigned more row cell x)

-- Does a list assign a character to a cell? Of the marks it is `is_non_spacing`: "a mark is any of the seven characters".
unfoldable pub has_character : List Assignment → ℕ → Bool
has_character [] c = false
has_character (a ∷ more) c = cond (eqb a.character c) true (has_character more c)

-- the row and the cell that a reverse look-up answers, or none
abbrev pub place_value : Answer (ℕ × ℕ) → Option (ℕ × ℕ)
place_value (Some p) = some p
place_value None = none

-- the first cell of a list with a character, for the coding of a mark (`candidates` of encode.rs): its row and its cell
unfoldable pub cell_with : List Assignment → ℕ → Option (ℕ × ℕ)
cell_with [] c = none
cell_with (a ∷ more) c = cond (eqb a.character c) (some (a.row, a.cell)) (cell_with more c)

-- "row by row": the place of a cell in the lent table
abbrev pub place : ℕ → ℕ → ℕ
place row cell = (row - 1) * 94 + (cell - 1)

-- a row and a cell from 1 to 94
abbrev pub on_grid : ℕ → ℕ → Bool
on_grid row cell = leb 1 row && leb row 94 && leb 1 cell && leb cell 94

-- the lent table's number at a cell; 0 for an empty cell, past the table's end and off the grid
unfoldable pub table_at : List ℕ → ℕ → ℕ → ℕ
table_at t row cell = cond (on_grid row cell) (get_or t (place row cell) 0) 0

-- `jis_x0208`: "the seven overrides are then applied"
unfoldable pub jis_x0208_at : List ℕ → ℕ → ℕ → ℕ
unfolding table_at assigned
jis_x0208_at t row cell = assigned kanji_overrides row cell (table_at t row cell)

-- "the row 90 gaps (45 to 63, 66 to 84)", which the Kanji set leaves undefined
abbrev pub gap : ℕ → ℕ → Bool
gap row cell = eqb row 90 && ((leb 45 cell && leb cell 63) || (leb 66 cell && leb cell 84))

-- rows 90 to 94 of the Kanji set
unfoldable pub kanji_symbol : ℕ → ℕ → ℕ
unfolding symbol
kanji_symbol row cell = cond (gap row cell) 0 (symbol row cell)

-- `kanji` at a cell where the lent table has x: "the marks first, then the row 90 gaps, then rows 90 to 94 from addsym,
-- then JIS X 0208"
unfoldable pub kanji_of : ℕ → ℕ → ℕ → ℕ
unfolding assigned kanji_symbol
kanji_of row cell x =
    assigned non_spacing row cell
    (elim (leb 90 row && leb row 94) [
      | true ↦ kanji_symbol row cell
      | false ↦ assigned kanji_overrides row cell x
    ])

-- `kanji`: the character of the Kanji set at a cell, 0 where it has none
unfoldable pub kanji_at : List ℕ → ℕ → ℕ → ℕ
unfolding table_at kanji_of
kanji_at t row cell = kanji_of row cell (table_at t row cell)

-- Worked: the table's number, a mark over it, an override over it, a symbol of row 92, a gap of row 90, an empty cell
-- past the table's end, off the grid; JIS X 0208 has an override and no mark.
worked :
    kanji_at (0x3000 ∷ []) 1 1 ∷ kanji_at [] 1 13 ∷ kanji_at [] 1 29 ∷ kanji_at [] 92 7 ∷ kanji_at [] 90 66 ∷ kanji_at [] 16 1 ∷ kanji_at [] 1 95
    ∷ jis_x0208_at [] 1 29 ∷ jis_x0208_at [] 1 13 ∷ []
    ≡ 0x3000 ∷ 0x301 ∷ 0x2014 ∷ 0x5E74 ∷ 0 ∷ 0 ∷ 0 ∷ 0x2014 ∷ 0 ∷ []
unfolding kanji_at jis_x0208_at
worked = refl
