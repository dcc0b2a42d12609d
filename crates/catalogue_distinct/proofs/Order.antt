-- The order of records: two that come after one record come after each other by what each has in common with it; none comes before itself. Assumes nothing.
use Prim.Native.Nat.{ℕ, zero, suc, ◌<◌}
use mathlib.Core.Path.{◌≡◌, refl, sym, ◌∙◌, subst}
use mathlib.Core.List.{List, [], ◌∷◌}
use native.Mathlib.Omega.{arith}
use lib.ListN.{length, get_or, take}
use Rattle.catalogue_distinct.specs.Runs.{Below}

-- what both have in common with k they have in common
pub shared : (n : ℕ) (k x y : List ℕ) → Below n k x → Below n k y → take n x ≡ take n y
shared zero k x y p q = refl
shared (suc n) [] x y p q = absurd p
shared (suc n) (c ∷ k) [] y p q = absurd p
shared (suc n) (c ∷ k) (a ∷ x) [] p q = absurd q
shared (suc n) (c ∷ k) (a ∷ x) (b ∷ y) p q =
    let e : a ≡ b = sym p.0 ∙ q.0 in
    let f = shared n k x y p.1 q.1 in
    λ i. e i ∷ f i

-- the one that has more in common with k comes first, and the other has with it what it has with k
pub nearer : (m n : ℕ) (k x y : List ℕ) → Below m k x → Below n k y → n < m → Below n x y
nearer zero n k x y p q h = absurd (omega arith)
nearer (suc m) n [] x y p q h = absurd p
nearer (suc m) n (c ∷ k) [] y p q h = absurd p
nearer (suc m) zero (c ∷ k) (a ∷ x) [] p q h = absurd q
nearer (suc m) zero (c ∷ k) (a ∷ x) (b ∷ y) p q h = subst (λ (z : ℕ). z < b) p.0 q
nearer (suc m) (suc n) (c ∷ k) (a ∷ x) [] p q h = absurd q
nearer (suc m) (suc n) (c ∷ k) (a ∷ x) (b ∷ y) p q h = (sym p.0 ∙ q.0, nearer m n k x y p.1 q.1 (omega arith))

-- where the first byte that differs is the smaller
pub below_at : (r : ℕ) (x y : List ℕ) → take r x ≡ take r y → r < length x → r < length y → get_or x r 0 < get_or y r 0 → Below r x y
below_at zero [] y e p q l = absurd (omega arith)
below_at zero (a ∷ x) [] e p q l = absurd (omega arith)
below_at zero (a ∷ x) (b ∷ y) e p q l = l
below_at (suc r) [] y e p q l = absurd (omega arith)
below_at (suc r) (a ∷ x) [] e p q l = absurd (omega arith)
below_at (suc r) (a ∷ x) (b ∷ y) e p q l =
    let h : a ≡ b = cc in
    let t : take r x ≡ take r y = cc in
    (h, below_at r x y t (omega arith) (omega arith) l)

-- everything comes after the empty record
pub below_none : (x : List ℕ) → 0 < length x → Below 0 [] x
below_none [] h = absurd (omega arith)
below_none (a ∷ x) h = tt

pub not_below : (n : ℕ) (x : List ℕ) → Below n x x → ⊥
not_below zero [] p = p
not_below zero (a ∷ x) p = omega arith
not_below (suc n) [] p = p
not_below (suc n) (a ∷ x) p = not_below n x p.1

-- x comes before y, whatever they have in common
pub record Before (x y : List ℕ) : Type 0 where
  pub common : ℕ
  pub below : Below common x y

pub before_trans : (m n : ℕ) (x y z : List ℕ) → Below m x y → Below n y z → Before x z
before_trans zero zero [] [] z p q = absurd p
before_trans zero zero [] (b ∷ y) [] p q = absurd q
before_trans zero zero [] (b ∷ y) (c ∷ z) p q = record { common = 0; below = tt }
before_trans zero zero (a ∷ x) [] z p q = absurd p
before_trans zero zero (a ∷ x) (b ∷ y) [] p q = absurd q
before_trans zero zero (a ∷ x) (b ∷ y) (c ∷ z) p q = let h : a < c = omega arith in record { common = 0; below = h }
before_trans zero (suc n) x [] z p q = absurd q
before_trans zero (suc n) x (b ∷ y) [] p q = absurd q
before_trans zero (suc n) [] (b ∷ y) (c ∷ z) p q = record { common = 0; below = tt }
before_trans zero (suc n) (a ∷ x) (b ∷ y) (c ∷ z) p q = record { common = 0; below = subst (λ (u : ℕ). a < u) q.0 p }
before_trans (suc m) n [] y z p q = absurd p
before_trans (suc m) n (a ∷ x) [] z p q = absurd p
before_trans (suc m) zero (a ∷ x) (b ∷ y) [] p q = absurd q
before_trans (suc m) zero (a ∷ x) (b ∷ y) (c ∷ z) p q = record { common = 0; below = subst (λ (u : ℕ). u < c) (sym p.0) q }
before_trans (suc m) (suc n) (a ∷ x) (b ∷ y) [] p q = absurd q
before_trans (suc m) (suc n) (a ∷ x) (b ∷ y) (c ∷ z) p q =
    let r = before_trans m n x y z p.1 q.1 in
    record { common = suc r.common; below = (p.0 ∙ q.0, r.below) }
