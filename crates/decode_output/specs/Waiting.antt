-- The waiting marks as one number, which the struct keeps: the text's buffer holds their bytes only as far as it reaches, and a bookmark hands them
-- over (request 9 of docs/REQUESTS.md, "sixteen marks").
use Rattle.std.specs.Prelude.{ℕ, ◌+◌, ◌*◌, cond, List, [], ◌∷◌, eqb, ltb}

-- a digit for each of the seven marks of Table E-1
unfoldable pub digit : ℕ → ℕ
digit m =
    cond (eqb m 0x301) 1
    (cond (eqb m 0x300) 2
    (cond (eqb m 0x308) 3
    (cond (eqb m 0x302) 4
    (cond (eqb m 0x305) 5
    (cond (eqb m 0x332) 6 7)))))

-- the mark of a digit
unfoldable pub mark_of : ℕ → ℕ
mark_of d =
    cond (eqb d 1) 0x301
    (cond (eqb d 2) 0x300
    (cond (eqb d 3) 0x308
    (cond (eqb d 4) 0x302
    (cond (eqb d 5) 0x305
    (cond (eqb d 6) 0x332 0x20DD)))))

-- the least number of seventeen octal digits
abbrev pub seventeen_digits : ℕ
seventeen_digits = 0x1000000000000

-- a mark more; behind seventeen they are told apart no longer
unfoldable pub pushed : ℕ → ℕ → ℕ
unfolding digit
pushed w m = cond (ltb w seventeen_digits) (w * 8 + digit m) w

-- marks more: from 0, the octal digits of up to sixteen
unfoldable pub packed : ℕ → List ℕ → ℕ
unfolding pushed
packed w [] = w
packed w (m ∷ ms) = packed (pushed w m) ms
