-- Lent buffers after a call: "output past the result is zero", and of a refusal "each output buffer zero-filled" (01).
use Rattle.std.specs.Prelude.{ℕ, zero, suc, List, [], ◌∷◌}

-- the values, then zeros, n in all: a buffer of n numbers after a result
unfoldable pub padded : ℕ → List ℕ → List ℕ
padded zero vs = []
padded (suc n) [] = 0 ∷ padded n []
padded (suc n) (v ∷ vs) = v ∷ padded n vs

-- the list with the value z from place j on
unfoldable pub cleared_to : {X : Type 0} → X → List X → ℕ → List X
cleared_to z [] j = []
cleared_to z (x ∷ l) zero = z ∷ cleared_to z l zero
cleared_to z (x ∷ l) (suc j) = x ∷ cleared_to z l j

-- the list with zeros from place j on
abbrev pub cleared : List ℕ → ℕ → List ℕ
cleared = cleared_to 0
