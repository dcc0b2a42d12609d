-- Runs put together, and that no record stands in a run twice. Assumes nothing.
use Prim.Native.Nat.{ℕ, suc, ◌%◌}
use mathlib.Core.Path.{◌≡◌, refl, sym, ap, subst}
use mathlib.Core.Bool.{Bool, true, false, cond}
use mathlib.Core.List.{List, [], ◌∷◌, ◌++◌}
use mathlib.Core.Logic.{⊎_elim}
use lib.Dec.{T}
use lib.ListN.{length}
use Rattle.catalogue_distinct.specs.Distinct.{among, distinct}
use Rattle.catalogue_distinct.specs.Runs.{record_of, records_of, Below, After, last_of}
use Rattle.catalogue_distinct.proofs.Same.{among_cases}
use Rattle.catalogue_distinct.proofs.Order.{not_below, before_trans}

module _ (places : List ℕ) where
  pub after_append : (k l m : List ℕ) → After places k l → After places (last_of places k l) m → After places k (l ++ m)
  after_append k [] m p q = q
  after_append k (i ∷ l) m p q = (p.0, after_append (record_of places i) l m p.1 q)

  pub last_append : (k l m : List ℕ) → last_of places k (l ++ m) ≡ last_of places (last_of places k l) m
  last_append k [] m = refl
  last_append k (i ∷ l) m = last_append (record_of places i) l m

  pub records_append : (l m : List ℕ) → records_of places (l ++ m) ≡ records_of places l ++ records_of places m
  records_append [] m = refl
  records_append (i ∷ l) m = ap (λ (r : List (List ℕ)). record_of places i ∷ r) (records_append l m)

  -- ---- no record twice

  earlier : (n : ℕ) (j k l : List ℕ) → Below n j k → After places k l → T (among j (records_of places l)) → ⊥
  earlier n j k [] b a t = t
  earlier n j k (i ∷ l) b a t =
      let r = before_trans n (i % 256) j k (record_of places i) b a.0 in
      ⊎_elim (λ (e : j ≡ record_of places i). not_below r.common j (subst (λ (z : List ℕ). Below r.common j z) (sym e) r.below))
      (earlier r.common j (record_of places i) l r.below a.1)
      (among_cases j (record_of places i) (records_of places l) t)

  not_again : (k l : List ℕ) → After places k l → T (among k (records_of places l)) → ⊥
  not_again k [] a t = t
  not_again k (i ∷ l) a t =
      ⊎_elim (λ (e : k ≡ record_of places i). not_below (i % 256) k (subst (λ (z : List ℕ). Below (i % 256) k z) (sym e) a.0))
      (earlier (i % 256) k (record_of places i) l a.0 a.1)
      (among_cases k (record_of places i) (records_of places l) t)

  -- so a run has as many different records as numbers
  pub all_different : (k l : List ℕ) → After places k l → distinct (records_of places l) ≡ length l
  all_different k [] a = refl
  all_different k (i ∷ l) a = go (among (record_of places i) (records_of places l)) refl (all_different (record_of places i) l a.1)
    where
      go : (b : Bool) → among (record_of places i) (records_of places l) ≡ b → distinct (records_of places l) ≡ length l →
          cond b (distinct (records_of places l)) (suc (distinct (records_of places l))) ≡ suc (length l)
      go true e r = absurd (not_again (record_of places i) l a.1 (subst T (sym e) tt))
      go false e r = ap suc r
