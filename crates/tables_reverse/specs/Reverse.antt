-- The two-byte reverse look-ups of the coder: the first cell in row order that reads as a character.
use Rattle.std.specs.Prelude.{ℕ, ◌+◌, ◌/◌, ◌%◌, List, [], ◌∷◌, ◌≡◌, refl, replicate}
use Rattle.std.proofs.Math.Option.{Option, none, some}
use Rattle.base.specs.First.{first}
use Rattle.addsym.specs.Symbols.{symbol}
use Rattle.tables.specs.Kanji.{kanji_of}

-- the row and the cell of a place of a two-byte set
unfoldable pub place_of : Option ℕ → Option (ℕ × ℕ)
place_of none = none
place_of (some i) = some (i / 94 + 1, i % 94 + 1)

-- `kanji` at a place in row order, the lent table having x there
unfoldable pub kanji_place : ℕ → ℕ → ℕ
unfolding kanji_of
kanji_place i x = kanji_of (i / 94 + 1) (i % 94 + 1) x

-- "the first cell in row order that `kanji` reads as the character"
unfoldable pub kanji_reverse : List ℕ → ℕ → Option (ℕ × ℕ)
unfolding kanji_place first place_of
kanji_reverse t c = place_of (first kanji_place 8836 c t)

-- `additional_symbols` at a place in row order
unfoldable pub symbol_place : ℕ → ℕ → ℕ
unfolding symbol
symbol_place i x = symbol (i / 94 + 1) (i % 94 + 1)

-- `additional_reverse`: the first cell in row order of the additional symbols set
unfoldable pub additional_reverse : ℕ → Option (ℕ × ℕ)
unfolding symbol_place first place_of
additional_reverse c = place_of (first symbol_place 8836 c [])

-- Worked, over the zero table: an override's cell, a mark's, a character of rows 90 to 94, one whose first cell of the
-- additional symbols set lies in a gap of the Kanji set, a character of no cell, 0.
cells :
    kanji_reverse (replicate 8836 0) 0xAC ∷ kanji_reverse (replicate 8836 0) 0x20DD ∷ kanji_reverse (replicate 8836 0) 0x5E74
    ∷ kanji_reverse (replicate 8836 0) 0x1F214 ∷ additional_reverse 0x1F214 ∷ kanji_reverse (replicate 8836 0) 0x41 ∷ additional_reverse 0 ∷ []
    ≡ some (2, 44) ∷ some (2, 94) ∷ some (92, 7) ∷ some (93, 30) ∷ some (90, 58) ∷ none ∷ none ∷ []
unfolding kanji_reverse additional_reverse
cells = refl
