-- The first place that reads as a character: what every reverse look-up of the coder finds.
use Rattle.std.specs.Prelude.{ℕ, zero, suc, true, false, List, eqb, get_or, drop}
use Rattle.std.proofs.Math.Option.{Option, none, some}

-- The first of n places, counted from i, at which c is read. A place reads as f of the place and of the number that the
-- list has there, 0 past its end.
unfoldable pub first_from : (ℕ → ℕ → ℕ) → ℕ → ℕ → ℕ → List ℕ → Option ℕ
first_from f c zero i t = none
first_from f c (suc n) i t = elim (eqb (f i (get_or t 0 0)) c) [ true ↦ some i | false ↦ first_from f c n (suc i) (drop 1 t) ]

-- the same from place 0; 0 is no character and is found nowhere
unfoldable pub first : (ℕ → ℕ → ℕ) → ℕ → ℕ → List ℕ → Option ℕ
unfolding first_from
first f n c t = elim (eqb c 0) [ true ↦ none | false ↦ first_from f c n 0 t ]
