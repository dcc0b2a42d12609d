-- "four the distinct keys": how many different ones a list has. Request 8 of docs/REQUESTS.md.
use Rattle.std.specs.Prelude.{ℕ, zero, suc, Bool, true, false, cond, List, [], ◌∷◌, eqb, take, drop}

-- whether two strings of bytes are the same
abbrev pub same : List ℕ → List ℕ → Bool
same [] [] = true
same [] (y ∷ ys) = false
same (x ∷ xs) [] = false
same (x ∷ xs) (y ∷ ys) = cond (eqb x y) (same xs ys) false

-- whether a string is among others
abbrev pub among : List ℕ → List (List ℕ) → Bool
among k [] = false
among k (l ∷ ls) = cond (same k l) true (among k ls)

-- how many different strings there are: those that are not among the ones behind them
abbrev pub distinct : List (List ℕ) → ℕ
distinct [] = 0
distinct (k ∷ ks) = cond (among k ks) (distinct ks) (suc (distinct ks))

-- What tells a key from another at a place of 260 bytes: what stands behind the number, "one byte of length and 255 of key". Of n places.
abbrev pub records : ℕ → List ℕ → List (List ℕ)
records zero l = []
records (suc n) l = take 256 (drop 4 l) ∷ records n (drop 260 l)
