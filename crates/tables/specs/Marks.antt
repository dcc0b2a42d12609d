-- The test for a mark and its turns: request 3 of docs/REQUESTS.md.
use Rattle.std.specs.Prelude.{ℕ, suc, cond, List, [], ◌∷◌, ◌≡◌, refl, eqb, ltb}
use Rattle.tables.specs.Kanji.{non_spacing, has_character}
use Rattle.tables.specs.declared.Assignment.{Assignment}
use Rattle.tables.specs.declared.MarkTest.{MarkTest}

-- the place of the first cell of a list with a character, counted from 0, and the list's length where none has it
unfoldable pub place_with : List Assignment → ℕ → ℕ
place_with [] c = 0
place_with (a ∷ more) c = cond (eqb a.character c) 0 (suc (place_with more c))

-- "its turns: 0 below U+0300, the matching mark's place in row order, counted from 1, else 7"
unfoldable pub turns : ℕ → ℕ
turns c = cond (ltb c 0x300) 0 (cond (has_character non_spacing c) (suc (place_with non_spacing c)) 7)

-- `is_non_spacing`: "a mark is any of the seven characters", and its turns
abbrev pub mark_test : ℕ → MarkTest
mark_test c = record { mark = has_character non_spacing c; turns = turns c }

-- Worked: below U+0300 and at it, the first mark, a combining character that is none of the seven, the last mark, kana.
worked : turns 0x41 ∷ turns 0x2FF ∷ turns 0x300 ∷ turns 0x301 ∷ turns 0x303 ∷ turns 0x20DD ∷ turns 0x3042 ∷ [] ≡ 0 ∷ 0 ∷ 2 ∷ 1 ∷ 7 ∷ 7 ∷ 7 ∷ []
unfolding turns has_character place_with
worked = refl
