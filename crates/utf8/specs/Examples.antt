-- The definitions at the corners of Table 3-7, computed.
use Rattle.std.specs.Prelude.{◌≡◌, refl, [], ◌∷◌, Some, None}
use Rattle.utf8.specs.Utf8.{utf8s, first_fault, scalars}

-- あ, then a sequence that is cut
cut : first_fault (0xE3 ∷ 0x81 ∷ 0x82 ∷ 0xE3 ∷ 0x81 ∷ []) ≡ Some 3
unfolding first_fault
cut = refl

-- a surrogate
surrogate : first_fault (0xED ∷ 0xA0 ∷ 0x80 ∷ []) ≡ Some 0
unfolding first_fault
surrogate = refl

-- no first byte
no_first : first_fault (0xCC ∷ 0x81 ∷ 0xFF ∷ []) ≡ Some 2
unfolding first_fault
no_first = refl

-- the least scalar of four bytes, and the greatest
least : first_fault (0xF0 ∷ 0x90 ∷ 0x80 ∷ 0x80 ∷ []) ≡ None
unfolding first_fault
least = refl

greatest : scalars (0xF4 ∷ 0x8F ∷ 0xBF ∷ 0xBF ∷ []) ≡ 0x10FFFF ∷ []
unfolding scalars
greatest = refl

-- 0 in two bytes, and a number past the last scalar
overlong : first_fault (0xC0 ∷ 0x80 ∷ []) ≡ Some 0
unfolding first_fault
overlong = refl

past : first_fault (0xF4 ∷ 0x90 ∷ 0x80 ∷ 0x80 ∷ []) ≡ Some 0
unfolding first_fault
past = refl

-- A, ¢, あ, 🈔: one to four bytes
written : utf8s (0x41 ∷ 0xA2 ∷ 0x3042 ∷ 0x1F214 ∷ []) ≡ 0x41 ∷ 0xC2 ∷ 0xA2 ∷ 0xE3 ∷ 0x81 ∷ 0x82 ∷ 0xF0 ∷ 0x9F ∷ 0x88 ∷ 0x94 ∷ []
unfolding utf8s
written = refl

read : scalars (0x41 ∷ 0xC2 ∷ 0xA2 ∷ 0xE3 ∷ 0x81 ∷ 0x82 ∷ 0xF0 ∷ 0x9F ∷ 0x88 ∷ 0x94 ∷ []) ≡ 0x41 ∷ 0xA2 ∷ 0x3042 ∷ 0x1F214 ∷ []
unfolding scalars
read = refl
