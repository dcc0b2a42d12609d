-- Cases of the definitions, computed.
use Rattle.std.specs.Prelude.{◌≡◌, refl, [], ◌∷◌}
use Rattle.ascii.specs.Ascii.{decimal, hexadecimal, refused_line}

-- 0, 10, the greatest number of 32 bits, and two bytes
numbers : (decimal 0 ≡ 0x30 ∷ []) × (decimal 10 ≡ 0x31 ∷ 0x30 ∷ []) × (decimal 4294967295 ≡ 0x34 ∷ 0x32 ∷ 0x39 ∷ 0x34 ∷ 0x39 ∷ 0x36 ∷ 0x37 ∷ 0x32 ∷ 0x39 ∷ 0x35 ∷ []) ×
    (hexadecimal (0xE3 ∷ 0x09 ∷ []) ≡ 0x45 ∷ 0x33 ∷ 0x30 ∷ 0x39 ∷ [])
unfolding decimal hexadecimal
numbers = (refl, refl, refl, refl)

-- refused 6 12
sixth : refused_line 6 12 ≡ 0x72 ∷ 0x65 ∷ 0x66 ∷ 0x75 ∷ 0x73 ∷ 0x65 ∷ 0x64 ∷ 0x20 ∷ 0x36 ∷ 0x20 ∷ 0x31 ∷ 0x32 ∷ 0x0A ∷ []
unfolding refused_line
sixth = refl
