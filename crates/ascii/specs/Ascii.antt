-- Numbers, bytes and refusals as the programs print them. A text is the list of its ASCII codes.
use Rattle.std.specs.Prelude.{ℕ, zero, suc, ◌+◌, ◌/◌, ◌%◌, true, false, cond, List, [], ◌∷◌, ◌++◌, ltb}

-- ---- numbers

-- a digit: 0 to 9, then A to F
abbrev pub digit : ℕ → ℕ
digit d = cond (ltb d 10) (48 + d) (55 + d)

-- n in decimal, in so many turns: the last digit stands behind those of the rest
unfoldable pub decimal_in : ℕ → ℕ → List ℕ
decimal_in zero n = []
decimal_in (suc turns) n = elim (ltb n 10) [ true ↦ digit n ∷ [] | false ↦ decimal_in turns (n / 10) ++ (digit (n % 10) ∷ []) ]

-- no number has more digits than its value and one
unfoldable pub decimal : ℕ → List ℕ
unfolding decimal_in
decimal n = decimal_in (suc n) n

-- two digits a byte
unfoldable pub hexadecimal : List ℕ → List ℕ
hexadecimal [] = []
hexadecimal (b ∷ bs) = digit (b / 16) ∷ digit (b % 16) ∷ hexadecimal bs

-- ---- refusals

abbrev pub space : List ℕ
space = 0x20 ∷ []

abbrev pub newline : List ℕ
newline = 0x0A ∷ []

-- `refused `
abbrev pub refused_word : List ℕ
refused_word = 0x72 ∷ 0x65 ∷ 0x66 ∷ 0x75 ∷ 0x73 ∷ 0x65 ∷ 0x64 ∷ 0x20 ∷ []

-- "A refusal prints `refused`, number, place" (01)
unfoldable pub refusal : ℕ → ℕ → List ℕ
unfolding decimal
refusal number place = refused_word ++ decimal number ++ space ++ decimal place

unfoldable pub refused_line : ℕ → ℕ → List ℕ
unfolding refusal
refused_line number place = refusal number place ++ newline
