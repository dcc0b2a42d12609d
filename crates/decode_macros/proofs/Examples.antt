-- Worked examples of the macro definitions, as the Rust answers them. Assumes nothing.
use mathlib.Core.Path.{◌≡◌, refl}
use mathlib.Core.List.{[], ◌∷◌}
use Rattle.reading.specs.Macros.{builtin, end_of}

-- 60: Kanji, alphanumeric, hiragana, macro
first : builtin 0x60 ≡ 0x1B ∷ 0x24 ∷ 0x42 ∷ 0x1B ∷ 0x29 ∷ 0x4A ∷ 0x1B ∷ 0x2A ∷ 0x30 ∷ 0x1B ∷ 0x2B ∷ 0x20 ∷ 0x70 ∷ 0x0F ∷ 0x1B ∷ 0x7D ∷ []
unfolding builtin
first = refl

-- 66: DRCS-1, DRCS-2, DRCS-3, macro
drcs : builtin 0x66 ≡ 0x1B ∷ 0x28 ∷ 0x20 ∷ 0x41 ∷ 0x1B ∷ 0x29 ∷ 0x20 ∷ 0x42 ∷ 0x1B ∷ 0x2A ∷ 0x20 ∷ 0x43 ∷ 0x1B ∷ 0x2B ∷ 0x20 ∷ 0x70 ∷ 0x0F ∷ 0x1B ∷ 0x7D ∷ []
unfolding builtin
drcs = refl

-- the first 95 4F ends a body, and 95 95 4F ends it at the second 95
ended : end_of (0x21 ∷ 0x95 ∷ 0x95 ∷ 0x4F ∷ 0x95 ∷ 0x4F ∷ []) ≡ 2
unfolding end_of
ended = refl

-- a last 95 ends none
open_end : end_of (0x21 ∷ 0x95 ∷ []) ≡ 2
unfolding end_of
open_end = refl
