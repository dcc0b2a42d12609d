-- Worked examples of the definitions of specs/Sets.antt, as the Rust answers them. Assumes nothing.
use mathlib.Core.Path.{◌≡◌, refl}
use mathlib.Core.List.{[], ◌∷◌}
use mathlib.Core.Option.{none}
use Rattle.sets.specs.Sets.{designation, read_designation}

-- Kanji to G0 and to G3
kanji_g0 : designation 0 0 ≡ 0x1B ∷ 0x24 ∷ 0x42 ∷ []
unfolding designation
kanji_g0 = refl

kanji_g3 : designation 0 3 ≡ 0x1B ∷ 0x24 ∷ 0x2B ∷ 0x42 ∷ []
unfolding designation
kanji_g3 = refl

-- hiragana to G2
hiragana_g2 : designation 2 2 ≡ 0x1B ∷ 0x2A ∷ 0x30 ∷ []
unfolding designation
hiragana_g2 = refl

-- the macro set to G3
macro_g3 : designation 15 3 ≡ 0x1B ∷ 0x2B ∷ 0x20 ∷ 0x70 ∷ []
unfolding designation
macro_g3 = refl

-- DRCS-0 to G0 keeps 02/8
drcs0_g0 : designation 16 0 ≡ 0x1B ∷ 0x24 ∷ 0x28 ∷ 0x20 ∷ 0x40 ∷ []
unfolding designation
drcs0_g0 = refl

-- DRCS-1 to G1
drcs1_g1 : designation 17 1 ≡ 0x1B ∷ 0x29 ∷ 0x20 ∷ 0x41 ∷ []
unfolding designation
drcs1_g1 = refl

-- ESC 02/4 02/8 04/2 and ESC 02/8 02/0 04/0 designate nothing
no_kanji : read_designation (0x24 ∷ 0x28 ∷ 0x42 ∷ []) ≡ none
unfolding read_designation
no_kanji = refl

no_drcs0 : read_designation (0x28 ∷ 0x20 ∷ 0x40 ∷ []) ≡ none
unfolding read_designation
no_drcs0 = refl

-- the DRCS form of the two-byte G0 with another intermediate byte is none either
no_form : read_designation (0x24 ∷ 0x20 ∷ 0x42 ∷ []) ≡ none
unfolding read_designation
no_form = refl
