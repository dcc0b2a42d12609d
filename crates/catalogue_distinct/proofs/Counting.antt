-- Lists with the same strings have as many different ones. Assumes nothing.
use Prim.Native.Nat.{ℕ, suc, ◌≤◌}
use mathlib.Core.Path.{◌≡◌, refl, sym, ap, ◌∙◌, subst}
use mathlib.Core.Bool.{Bool, true, false, cond}
use mathlib.Core.List.{List, [], ◌∷◌}
use mathlib.Core.Logic.{⊎_elim}
use native.Mathlib.Omega.{arith}
use lib.Dec.{T}
use Rattle.catalogue_distinct.specs.Distinct.{same, among, distinct}
use Rattle.catalogue_distinct.proofs.Same.{same_eq, same_refl, among_first, among_later, among_cases}

-- the strings of a list other than k
abbrev without : List ℕ → List (List ℕ) → List (List ℕ)
without k [] = []
without k (l ∷ ls) = cond (same k l) (without k ls) (l ∷ without k ls)

-- what is not k is among the others if it is among all
others : (k j : List ℕ) (ls : List (List ℕ)) → (T (same k j) → ⊥) → among j (without k ls) ≡ among j ls
others k j [] h = refl
others k j (l ∷ ls) h = go (same k l) refl (others k j ls h)
  where
    go : (b : Bool) → same k l ≡ b → among j (without k ls) ≡ among j ls → among j (cond b (without k ls) (l ∷ without k ls)) ≡ among j (l ∷ ls)
    go true e r = r ∙ skip (same j l) refl
      where
        skip : (d : Bool) → same j l ≡ d → among j ls ≡ cond d true (among j ls)
        skip true q = absurd (h (subst (λ (z : List ℕ). T (same k z)) (sym (same_eq j l (subst T (sym q) tt))) (subst T (sym e) tt)))
        skip false q = refl
    go false e r = ap (λ (c : Bool). cond (same j l) true c) r

-- where k is not among them there are as many others
none_less : (k : List ℕ) (ls : List (List ℕ)) → (T (among k ls) → ⊥) → without k ls ≡ ls
none_less k [] h = refl
none_less k (l ∷ ls) h = go (same k l) refl (none_less k ls (λ t. h (among_later k l ls t)))
  where
    go : (b : Bool) → same k l ≡ b → without k ls ≡ ls → cond b (without k ls) (l ∷ without k ls) ≡ l ∷ ls
    go true e r = absurd (h (among_first k l ls (same_eq k l (subst T (sym e) tt))))
    go false e r = ap (λ (z : List (List ℕ)). l ∷ z) r

-- and where it is, one less
one_less : (k : List ℕ) (ls : List (List ℕ)) → T (among k ls) → distinct ls ≡ suc (distinct (without k ls))
one_less k [] t = absurd t
one_less k (l ∷ ls) t = go (same k l) refl (one_less k ls)
  where
    go : (b : Bool) → same k l ≡ b → (T (among k ls) → distinct ls ≡ suc (distinct (without k ls))) →
        distinct (l ∷ ls) ≡ suc (distinct (cond b (without k ls) (l ∷ without k ls)))
    go true e r = subst (λ (z : List ℕ). distinct (z ∷ ls) ≡ suc (distinct (without k ls))) (same_eq k l (subst T (sym e) tt)) (at (among k ls) refl)
      where
        at : (c : Bool) → among k ls ≡ c → cond c (distinct ls) (suc (distinct ls)) ≡ suc (distinct (without k ls))
        at true q = r (subst T (sym q) tt)
        at false q = ap (λ (z : List (List ℕ)). suc (distinct z)) (sym (none_less k ls (λ u. subst T q u)))
    go false e r =
        let there : T (among k ls) = ⊎_elim (λ (q : k ≡ l). absurd (subst T e (subst (λ (z : List ℕ). T (same k z)) q (same_refl k)))) (λ u. u) (among_cases k l ls t) in
        let o = others k l ls (λ u. subst T e u) in
        at (among l ls) (among l (without k ls)) o (r there)
      where
        at : (c d : Bool) → d ≡ c → distinct ls ≡ suc (distinct (without k ls)) →
            cond c (distinct ls) (suc (distinct ls)) ≡ suc (cond d (distinct (without k ls)) (suc (distinct (without k ls))))
        at c true q s = subst (λ (z : Bool). cond z (distinct ls) (suc (distinct ls)) ≡ suc (distinct (without k ls))) q s
        at c false q s = subst (λ (z : Bool). cond z (distinct ls) (suc (distinct ls)) ≡ suc (suc (distinct (without k ls)))) q (ap suc s)

-- a list whose strings are all among others has no more different ones
pub no_more : (ls ms : List (List ℕ)) → ((k : List ℕ) → T (among k ls) → T (among k ms)) → distinct ls ≤ distinct ms
no_more [] ms f = omega arith
no_more (l ∷ ls) ms f = go (among l ls) refl (no_more ls ms (λ k t. f k (among_later k l ls t))) (no_more ls (without l ms))
  where
    go : (b : Bool) → among l ls ≡ b → distinct ls ≤ distinct ms →
        (((k : List ℕ) → T (among k ls) → T (among k (without l ms))) → distinct ls ≤ distinct (without l ms)) →
        cond b (distinct ls) (suc (distinct ls)) ≤ distinct ms
    go true e r s = r
    go false e r s =
        let less = s (λ k t. subst T (sym (others l k ms (λ u. subst T e (subst (λ (z : List ℕ). T (among z ls)) (sym (same_eq l k u)) t)))) (f k (among_later k l ls t))) in
        omega (arith, one_less l ms (f l (among_first l l ls refl)))

-- so lists with the same strings have as many
pub as_many : (ls ms : List (List ℕ)) → ((k : List ℕ) → among k ls ≡ among k ms) → distinct ls ≡ distinct ms
as_many ls ms f =
    let p = no_more ls ms (λ k t. subst T (f k) t) in
    let q = no_more ms ls (λ k t. subst T (sym (f k)) t) in
    omega arith
