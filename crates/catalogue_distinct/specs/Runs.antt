-- Sorted runs of places. A number of a run is a place, times 256, and how many bytes the place's record has in common with the record before it.
use Rattle.std.specs.Prelude.{ℕ, zero, suc, ◌+◌, ◌*◌, ◌/◌, ◌%◌, ◌<◌, ◌≡◌, Bool, true, cond, List, [], ◌∷◌, take, drop}

-- what stands behind the number of a place
abbrev pub record_at : List ℕ → ℕ → List ℕ
record_at places p = take 256 (drop (p * 260 + 4) places)

-- the record that a number of a run stands for
abbrev pub record_of : List ℕ → ℕ → List ℕ
record_of places i = record_at places (i / 256)

abbrev pub records_of : List ℕ → List ℕ → List (List ℕ)
records_of places [] = []
records_of places (i ∷ is) = record_of places i ∷ records_of places is

-- x comes before y: they have their first n bytes in common, and then x ends or has the smaller byte
abbrev pub Below : ℕ → List ℕ → List ℕ → Type 0
Below zero [] [] = ⊥
Below zero [] (b ∷ y) = Unit {0}
Below zero (a ∷ x) [] = ⊥
Below zero (a ∷ x) (b ∷ y) = a < b
Below (suc n) [] y = ⊥
Below (suc n) (a ∷ x) [] = ⊥
Below (suc n) (a ∷ x) (b ∷ y) = (a ≡ b) × Below n x y

-- a run goes on behind the record k: each record comes after the one before it, by as many bytes as its number says. A whole run goes on behind the empty record
abbrev pub After : List ℕ → List ℕ → List ℕ → Type 0
After places k [] = Unit {0}
After places k (i ∷ is) = Below (i % 256) k (record_of places i) × After places (record_of places i) is

-- the record of a run's last number, k of no number
abbrev pub last_of : List ℕ → List ℕ → List ℕ → List ℕ
last_of places k [] = k
last_of places k (i ∷ is) = last_of places (record_of places i) is

-- one of two, or both
abbrev pub or : Bool → Bool → Bool
or a b = cond a true b
