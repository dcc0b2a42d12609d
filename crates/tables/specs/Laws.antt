-- The turns of the test for a mark, as statements. proofs/Laws.antt proves each under its name.
use Rattle.std.specs.Prelude.{ℕ, ◌+◌, ◌-◌, ◌<◌, ◌≤◌, true, List, map, ◌≡◌, get_or}
use Rattle.tables.specs.Kanji.{non_spacing, has_character, place}
use Rattle.tables.specs.Marks.{turns}
use Rattle.tables.specs.declared.Assignment.{Assignment}

-- the seven characters, and their places in a table that is read row by row
abbrev pub marks : List ℕ
marks = map (λ (a : Assignment). a.character) non_spacing

abbrev pub places : List ℕ
places = map (λ (a : Assignment). place a.row a.cell) non_spacing

-- "in row order"
abbrev pub MarksInOrder : Type 0
MarksInOrder = (i : ℕ) → i < 6 → get_or places i 0 < get_or places (i + 1) 0

-- no turn below U+0300, and nowhere else
abbrev pub TurnsNone : Type 0
TurnsNone = (c : ℕ) → (c < 0x300 → turns c ≡ 0) × (turns c ≡ 0 → c < 0x300)

-- never more than seven
abbrev pub TurnsMost : Type 0
TurnsMost = (c : ℕ) → turns c ≤ 7

-- the mark at a place takes one turn more than stand before it, and a mark's turns name it
abbrev pub TurnsPlace : Type 0
TurnsPlace = ((i : ℕ) → i < 7 → turns (get_or marks i 0) ≡ i + 1) × ((c : ℕ) → has_character non_spacing c ≡ true → get_or marks (turns c - 1) 0 ≡ c)

-- two marks with the same turns are one
abbrev pub TurnsApart : Type 0
TurnsApart = (c d : ℕ) → has_character non_spacing c ≡ true → has_character non_spacing d ≡ true → turns c ≡ turns d → c ≡ d
