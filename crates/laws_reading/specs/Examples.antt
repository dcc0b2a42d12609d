-- Worked examples of specs/Bodies.antt: the bodies that run in rows 7 and 8 of 01's table of twelve, which charge 16 and 8, and the order of bodies.
use Rattle.std.specs.Prelude.{ℕ, ◌≡◌, refl, false, List, [], ◌∷◌, replicate}
use Rattle.reading.specs.Macros.{builtin}
use Rattle.laws_reading.specs.Bodies.{bodies, total}

-- Caption (1)
abbrev ran_of : List ℕ → List (List ℕ)
ran_of input = bodies (record { cells = []; annex_e = false; input = input }) 1

-- row 7: SS3 and the character 61 of the macro set
abbrev row7 : List ℕ
row7 = 0x1D ∷ 0x61 ∷ 0x0E ∷ 0x22 ∷ []

built_in : ran_of row7 ≡ builtin 0x61 ∷ []
unfolding bodies
built_in = refl

built_in_charge : total (ran_of row7) ≡ 16
unfolding bodies total
built_in_charge = refl

-- row 8: a body that calls itself runs until four are open
abbrev row8 : List ℕ
row8 = 0x95 ∷ 0x41 ∷ 0x21 ∷ 0x1D ∷ 0x21 ∷ 0x95 ∷ 0x4F ∷ []

four_open : ran_of row8 ≡ replicate 4 (0x1D ∷ 0x21 ∷ [])
unfolding bodies
four_open = refl

four_open_charge : total (ran_of row8) ≡ 8
unfolding bodies total
four_open_charge = refl

-- macro 21 is defined; then macro 22, which calls it, is defined and run; then a built-in body runs
in_order : ran_of (0x95 ∷ 0x40 ∷ 0x21 ∷ 0x22 ∷ 0x95 ∷ 0x4F ∷ 0x95 ∷ 0x41 ∷ 0x22 ∷ 0x1D ∷ 0x21 ∷ 0x20 ∷ 0x95 ∷ 0x4F ∷ 0x1D ∷ 0x60 ∷ []) ≡
    (0x1D ∷ 0x21 ∷ 0x20 ∷ []) ∷ (0x22 ∷ []) ∷ builtin 0x60 ∷ []
unfolding bodies
in_order = refl
