-- What calls do with a catalogue's entries: request 8 of docs/REQUESTS.md.
use Rattle.std.specs.Prelude.{ℕ, min, Bool, true, false, cond, List, [], ◌∷◌, eqb, ltb}
use Rattle.catalogue_distinct.specs.Distinct.{same}
use Rattle.catalogue_form.specs.Form.{Entry}

-- "a number already present"
abbrev pub numbered : ℕ → List Entry → Bool
numbered n [] = false
numbered n (e ∷ es) = cond (eqb e.number n) true (numbered n es)

-- an entry in its place "by rising number"
abbrev pub entered : Entry → List Entry → List Entry
entered e [] = e ∷ []
entered e (f ∷ fs) = cond (ltb f.number e.number) (f ∷ entered e fs) (e ∷ f ∷ fs)

-- "removed by number"
abbrev pub without : ℕ → List Entry → List Entry
without n [] = []
without n (e ∷ es) = cond (eqb e.number n) (without n es) (e ∷ without n es)

-- "found by key bytes": the entries that have the key
abbrev pub having : List ℕ → List Entry → List Entry
having k [] = []
having k (e ∷ es) = cond (same k e.key) (e ∷ having k es) (having k es)

-- "the smallest number", "0 if none has"
abbrev pub least_from : ℕ → List Entry → ℕ
least_from n [] = n
least_from n (e ∷ es) = least_from (min n e.number) es

abbrev pub smallest : List Entry → ℕ
smallest [] = 0
smallest (e ∷ es) = least_from e.number es
