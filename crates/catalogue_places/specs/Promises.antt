-- What the functions that find and move places promise.
use Rattle.std.specs.Prelude.{ℕ, suc, ◌+◌, ◌-◌, ◌*◌, Bool, false, cond, List, [], ◌∷◌, ◌++◌, ltb, eqb, take, drop, replicate}
use Rattle.std.proofs.Math.Seq.{paste}
use Rattle.catalogue_form.specs.Form.{Entry}

-- how many entries stand before the place of a number
abbrev pub before : ℕ → List Entry → ℕ
before n [] = 0
before n (e ∷ es) = cond (ltb e.number n) (suc (before n es)) 0

-- the first entry's number, 0 where there is none
abbrev pub first_number : List Entry → ℕ
first_number [] = 0
first_number (e ∷ es) = e.number

-- whether the first entry has this number
abbrev pub headed : ℕ → List Entry → Bool
headed n [] = false
headed n (e ∷ es) = eqb e.number n

-- so many places from `at` on: the one that is carried, then those that stood there, each a place further
abbrev pub opened : List ℕ → ℕ → ℕ → List ℕ → List ℕ
opened s at n carried = paste s at (carried ++ drop at s) (n * 260)

-- of n places the one behind so many is away: the others are there, then zeros for the last, and what stood behind
abbrev pub closed : List ℕ → ℕ → ℕ → List ℕ
closed s n at = take (at * 260) s ++ (take ((n - 1 - at) * 260) (drop ((at + 1) * 260) s) ++ (replicate 260 0 ++ drop (n * 260) s))
