-- A merge of two runs: its start, a turn, and its end. Assumes nothing.
use Prim.Native.Nat.{ℕ, zero, suc}
use mathlib.Core.Path.{◌≡◌, refl, sym, ap, ◌∙◌, subst}
use mathlib.Core.Bool.{Bool, true, false}
use mathlib.Core.List.{List, [], ◌∷◌, ◌++◌, append-nil}
use mathlib.Core.Logic.{◌⊎◌, inl, inr}
use lib.ListN.{drop}
use Rattle.base.specs.Lists.{All}
use Rattle.base.proofs.Every.{all_append}
use Rattle.catalogue_distinct.specs.Distinct.{same, among}
use Rattle.catalogue_distinct.specs.Runs.{record_of, records_of, After, last_of, or}
use Rattle.catalogue_distinct.specs.Promises.{Inside, Turned, Sorted, Merging, Merged}
use Rattle.catalogue_distinct.proofs.Same.{among_append}
use Rattle.catalogue_distinct.proofs.Runs.{after_append, last_append, records_append}

all_drop : (P : ℕ → Type 0) (n : ℕ) (l : List ℕ) → All P l → All P (drop n l)
all_drop P zero l a = a
all_drop P (suc n) [] a = tt
all_drop P (suc n) (x ∷ l) a = all_drop P n l a.1

or_last : (a b c : Bool) → or (or a (or b false)) c ≡ or a (or b c)
or_last true b c = refl
or_last false true c = refl
or_last false false c = refl

module _ (places : List ℕ) where
  among_of : (k l m : List ℕ) → among k (records_of places (l ++ m)) ≡ or (among k (records_of places l)) (among k (records_of places m))
  among_of k l m = ap (among k) (records_append places l m) ∙ among_append k (records_of places l) (records_of places m)

  pub merging_start : (xs ys : List ℕ) → Sorted places xs → Sorted places ys → Merging places xs ys [] xs ys
  merging_start xs ys p q = record {
    put = record { order = tt; inside = tt };
    left = p.order;
    left_inside = p.inside;
    right = q.order;
    right_inside = q.inside;
    members = λ k. refl;
  }

  module _ (xs₀ ys₀ zs : List ℕ) where
    pub merging_on : (x y : ℕ) (xs ys : List ℕ) (first x' y' left right : ℕ) → Turned places x y first x' y' left right →
        Merging places xs₀ ys₀ zs (x ∷ xs) (y ∷ ys) →
        Merging places xs₀ ys₀ (zs ++ (first ∷ [])) (drop left (x' ∷ xs)) (drop right (y' ∷ ys))
    merging_on x y xs ys first x' y' left right t m =
        let k = last_of places [] zs in
        let last : last_of places [] (zs ++ (first ∷ [])) ≡ record_of places first = last_append places [] zs (first ∷ []) in
        record {
          put =
              record {
                order = after_append places [] zs (first ∷ []) m.put.order (t.next k xs ys m.left m.right, tt);
                inside = all_append (Inside places) zs (first ∷ []) m.put.inside (t.first_inside, tt);
              };
          left = subst (λ (r : List ℕ). After places r (drop left (x' ∷ xs))) (sym last) (t.left_on k xs ys m.left m.right);
          left_inside = all_drop (Inside places) left (x' ∷ xs) (t.left_inside, m.left_inside.1);
          right = subst (λ (r : List ℕ). After places r (drop right (y' ∷ ys))) (sym last) (t.right_on k xs ys m.left m.right);
          right_inside = all_drop (Inside places) right (y' ∷ ys) (t.right_inside, m.right_inside.1);
          members = λ j.
              let a = among j (records_of places zs) in
              let f = same j (record_of places first) in
              let rest = or (among j (records_of places (drop left (x' ∷ xs)))) (among j (records_of places (drop right (y' ∷ ys)))) in
              ap (λ (b : Bool). or b rest) (among_of j zs (first ∷ []))
              ∙ (or_last a f rest ∙ (ap (or a) (sym (t.members k xs ys m.left m.right j)) ∙ m.members j));
        }

    -- one run is at its end, and the rest of the other stands behind what was put
    pub merging_end : (xs ys : List ℕ) → Merging places xs₀ ys₀ zs xs ys → (xs ≡ []) ⊎ (ys ≡ []) → Merged places xs₀ ys₀ (zs ++ (xs ++ ys))
    merging_end xs ys m over = record {
      sorted =
          record {
            order = after_append places [] zs (xs ++ ys) m.put.order (goes_on over);
            inside = all_append (Inside places) zs (xs ++ ys) m.put.inside (all_append (Inside places) xs ys m.left_inside m.right_inside);
          };
      members = λ k. among_of k zs (xs ++ ys) ∙ (ap (or (among k (records_of places zs))) (among_of k xs ys) ∙ m.members k);
    }
      where
        goes_on : (xs ≡ []) ⊎ (ys ≡ []) → After places (last_of places [] zs) (xs ++ ys)
        goes_on (inl e) = subst (λ (l : List ℕ). After places (last_of places [] zs) (l ++ ys)) (sym e) m.right
        goes_on (inr e) =
            subst (λ (l : List ℕ). After places (last_of places [] zs) (xs ++ l)) (sym e)
            (subst (λ (l : List ℕ). After places (last_of places [] zs) l) (sym (append-nil xs)) m.left)

    pub merging_as : (zs' xs xs' ys ys' : List ℕ) → zs' ≡ zs → xs' ≡ xs → ys' ≡ ys → Merging places xs₀ ys₀ zs xs ys →
        Merging places xs₀ ys₀ zs' xs' ys'
    merging_as zs' xs xs' ys ys' e f g m =
        subst (λ (l : List ℕ). Merging places xs₀ ys₀ l xs' ys') (sym e)
        (subst (λ (l : List ℕ). Merging places xs₀ ys₀ zs l ys') (sym f) (subst (λ (l : List ℕ). Merging places xs₀ ys₀ zs xs l) (sym g) m))
