-- Words for lists that several crates' definitions and laws use.
use Rattle.std.specs.Prelude.{Bool, true, false, List, [], ◌∷◌}

-- P holds of every element
abbrev pub All : {A : Type 0} → (A → Type 0) → List A → Type 0
All P [] = Unit {0}
All P (x ∷ xs) = P x × All P xs

-- the element, where the test holds
abbrev pub when : {A : Type 0} → Bool → A → List A
when true x = x ∷ []
when false x = []
