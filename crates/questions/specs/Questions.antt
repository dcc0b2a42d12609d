-- The first three of "The questions, put in this order" (01): each is a test, and no means a refusal with its number.
use Rattle.std.specs.Prelude.{ℕ, ◌+◌, ◌-◌, ◌*◌, Bool, true, cond, not, ◌&&◌, List, [], ◌∷◌, leb, eqb, length, take, drop}

-- ---- Question 1: "Has the cell table 8,836 numbers, none from D800 to DFFF, rows 9 to 15 and 85 to 94 all zero?"

-- the test passes at every number of the list
unfoldable pub all : (ℕ → Bool) → List ℕ → Bool
all f [] = true
all f (x ∷ xs) = f x && all f xs

-- not from D800 to DFFF
abbrev pub scalar : ℕ → Bool
scalar x = not (leb 0xD800 x && leb x 0xDFFF)

abbrev pub zero? : ℕ → Bool
zero? x = eqb x 0

-- the rows from a to b of the table, "row by row": rows count from 1 and have 94 cells
abbrev pub rows : ℕ → ℕ → List ℕ → List ℕ
rows a b t = take ((b + 1 - a) * 94) (drop ((a - 1) * 94) t)

-- "8,836 numbers"
abbrev pub cell_count : List ℕ → Bool
cell_count t = eqb (length t) 8836

-- "none from D800 to DFFF"
abbrev pub no_surrogate : List ℕ → Bool
no_surrogate t = all scalar t

-- "rows 9 to 15 and 85 to 94 all zero"
abbrev pub empty_rows : List ℕ → Bool
empty_rows t = all zero? (rows 9 15 t) && all zero? (rows 85 94 t)

unfoldable pub cells_hold : List ℕ → Bool
cells_hold t = cell_count t && no_surrogate t && empty_rows t

-- ---- Question 2: "Are the options 0 or 1 (Si, Caption; CharacterSize, AnnexE)?"

abbrev pub options_hold : ℕ → ℕ → Bool
options_hold initial width = leb initial 1 && leb width 1

-- ---- Question 3: "Is the input at most 65,535 bytes (decoding, key) or 7,281 (text to code)?"

abbrev pub decode_limit : ℕ
decode_limit = 65535

abbrev pub encode_limit : ℕ
encode_limit = 7281

abbrev pub length_holds : ℕ → ℕ → Bool
length_holds limit len = leb len limit

-- ---- What every call begins with

-- the number of the first of the three that is answered no, or 0
unfoldable pub first_refusal : List ℕ → ℕ → ℕ → ℕ → ℕ → ℕ
first_refusal t initial width limit len =
    cond (cells_hold t) (cond (options_hold initial width) (cond (length_holds limit len) 0 3) 2) 1
