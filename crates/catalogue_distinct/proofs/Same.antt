-- Strings that are the same are equal; what is among strings put together is among the first or among the others. Assumes nothing.
use Prim.Native.Nat.{ℕ, zero, suc, ◌<◌}
use mathlib.Core.Path.{◌≡◌, refl, sym, ap, ◌∙◌, subst}
use mathlib.Core.Bool.{Bool, true, false, cond, ◌&&◌}
use mathlib.Core.List.{List, [], ◌∷◌, ◌++◌}
use mathlib.Core.Logic.{◌⊎◌, inl, inr}
use native.Mathlib.Omega.{arith}
use lib.ListN.{length, get_or, take}
use lib.Dec.{T, eqb, eqb→eq, eqb_refl}
use Rattle.std.proofs.Common.{nat_eq}
use Rattle.std.specs.Cmp.Lexicographic.{pointwise}
use Rattle.catalogue_distinct.specs.Distinct.{same, among}

both_left : (a b : Bool) → T (cond a b false) → T a
both_left true b t = tt
both_left false b t = t

both_right : (a b : Bool) → T (cond a b false) → T b
both_right true b t = t
both_right false b t = absurd t

both : (a b : Bool) → T a → T b → T (cond a b false)
both true b p q = q
both false b p q = p

pub same_eq : (a b : List ℕ) → T (same a b) → a ≡ b
same_eq [] [] t = refl
same_eq [] (y ∷ ys) t = absurd t
same_eq (x ∷ xs) [] t = absurd t
same_eq (x ∷ xs) (y ∷ ys) t =
    let e = eqb→eq x y (both_left (eqb x y) (same xs ys) t) in
    let f = same_eq xs ys (both_right (eqb x y) (same xs ys) t) in
    λ i. e i ∷ f i

pub same_refl : (a : List ℕ) → T (same a a)
same_refl [] = tt
same_refl (x ∷ xs) = both (eqb x x) (same xs xs) (eqb_refl x) (same_refl xs)

-- what `==` of slices answers
pub same_is : (a b : List ℕ) → pointwise nat_eq a b ≡ same a b
same_is [] [] = refl
same_is [] (y ∷ ys) = refl
same_is (x ∷ xs) [] = refl
same_is (x ∷ xs) (y ∷ ys) = as_cond (eqb x y) (pointwise nat_eq xs ys) ∙ ap (λ (t : Bool). cond (eqb x y) t false) (same_is xs ys)
  where
    as_cond : (p q : Bool) → (p && q) ≡ cond p q false
    as_cond true q = refl
    as_cond false q = refl

-- ---- one byte more

apart : (p q r : Bool) → cond p (q && r) false ≡ cond p q false && r
apart true q r = refl
apart false q r = refl

pub same_on : (u v : List ℕ) (i : ℕ) → i < length u → i < length v →
    same (take (suc i) u) (take (suc i) v) ≡ same (take i u) (take i v) && eqb (get_or u i 0) (get_or v i 0)
same_on [] v i p q = absurd (omega arith)
same_on (a ∷ u) [] i p q = absurd (omega arith)
same_on (a ∷ u) (b ∷ v) zero p q = last (eqb a b)
  where
    last : (c : Bool) → cond c true false ≡ true && c
    last true = refl
    last false = refl
same_on (a ∷ u) (b ∷ v) (suc i) p q =
    ap (λ (t : Bool). cond (eqb a b) t false) (same_on u v i (omega arith) (omega arith)) ∙ apart (eqb a b) (same (take i u) (take i v)) (eqb (get_or u i 0) (get_or v i 0))

-- ---- among

grouped : (a b c : Bool) → cond a true (cond b true c) ≡ cond (cond a true b) true c
grouped true b c = refl
grouped false b c = refl

pub among_append : (k : List ℕ) (l m : List (List ℕ)) → among k (l ++ m) ≡ cond (among k l) true (among k m)
among_append k [] m = refl
among_append k (x ∷ l) m = ap (λ (b : Bool). cond (same k x) true b) (among_append k l m) ∙ grouped (same k x) (among k l) (among k m)

pub among_first : (k x : List ℕ) (l : List (List ℕ)) → k ≡ x → T (among k (x ∷ l))
among_first k x l e = subst (λ (y : List ℕ). T (cond (same k y) true (among k l))) e (go (same k k) (same_refl k))
  where
    go : (b : Bool) → T b → T (cond b true (among k l))
    go true t = tt
    go false t = absurd t

pub among_later : (k x : List ℕ) (l : List (List ℕ)) → T (among k l) → T (among k (x ∷ l))
among_later k x l t = go (same k x)
  where
    go : (b : Bool) → T (cond b true (among k l))
    go true = tt
    go false = t

-- the first, or among the others
pub among_cases : (k x : List ℕ) (l : List (List ℕ)) → T (among k (x ∷ l)) → (k ≡ x) ⊎ T (among k l)
among_cases k x l t = go (same k x) refl t
  where
    go : (b : Bool) → same k x ≡ b → T (cond b true (among k l)) → (k ≡ x) ⊎ T (among k l)
    go true e u = inl (same_eq k x (subst T (sym e) tt))
    go false e u = inr u
