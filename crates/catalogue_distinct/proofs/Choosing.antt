-- The turns of a merge, by which of two heads comes first: the one with more in common with what was put last, and of two with as much the one with the
-- smaller byte where they differ. Assumes nothing.
use Prim.Native.Nat.{ℕ, ◌+◌, ◌-◌, ◌/◌, ◌%◌, ◌≤◌, ◌<◌}
use mathlib.Core.Path.{◌≡◌, refl, sym, ap, ◌∙◌, subst}
use mathlib.Core.Bool.{Bool, true, false}
use mathlib.Core.List.{List, ◌∷◌}
use native.Mathlib.Omega.{arith}
use lib.ListN.{get_or, take, drop}
use Rattle.catalogue_distinct.specs.Distinct.{same, among}
use Rattle.catalogue_distinct.specs.Runs.{record_at, record_of, records_of, Below, After, or}
use Rattle.catalogue_distinct.specs.Promises.{Common, Inside, Turned}
use Rattle.catalogue_distinct.proofs.Order.{shared, nearer, below_at}
use Rattle.catalogue_distinct.proofs.Bytes.{record_long, common_swap, equal}

or_group : (a b c : Bool) → or (or a b) c ≡ or a (or b c)
or_group true b c = refl
or_group false b c = refl

or_once : (a b c : Bool) → or (or a b) (or a c) ≡ or a (or b c)
or_once true b c = refl
or_once false b c = refl

or_swap : (a b : Bool) → or a b ≡ or b a
or_swap true true = refl
or_swap true false = refl
or_swap false true = refl
or_swap false false = refl

module _ (places : List ℕ) where
  pub swap : (x y first x' y' left right : ℕ) → Turned places y x first y' x' right left → Turned places x y first x' y' left right
  swap x y first x' y' left right t = record {
    next = λ k xs ys p q. t.next k ys xs q p;
    left_on = λ k xs ys p q. t.right_on k ys xs q p;
    right_on = λ k xs ys p q. t.left_on k ys xs q p;
    members = λ k xs ys p q j.
        or_swap (among j (records_of places (x ∷ xs))) (among j (records_of places (y ∷ ys)))
        ∙ (t.members k ys xs q p j
        ∙ ap (or (same j (record_of places first))) (or_swap (among j (records_of places (drop right (y' ∷ ys)))) (among j (records_of places (drop left (x' ∷ xs))))));
    first_inside = t.first_inside;
    left_inside = t.right_inside;
    right_inside = t.left_inside;
    some = omega (arith, t.some);
    left_few = t.right_few;
    right_few = t.left_few;
  }

  -- a head that has c in common with what was put
  module _ (z c : ℕ) (h : c < 256) where
    pub same_place : (z - z % 256 + c) / 256 ≡ z / 256
    same_place = omega arith

    pub its_common : (z - z % 256 + c) % 256 ≡ c
    its_common = omega arith

    still_inside : Inside places z → Inside places (z - z % 256 + c)
    still_inside i = record { within = omega (arith, i.within, same_place); small = omega (arith, i.small, same_place) }

    goes_on : (k zs : List ℕ) → Below c k (record_of places z) → After places (record_of places z) zs → After places k ((z - z % 256 + c) ∷ zs)
    goes_on k zs b a = (
      subst (λ (n : ℕ). Below n k (record_of places (z - z % 256 + c))) (sym its_common) (subst (λ (p : ℕ). Below c k (record_at places p)) (sym same_place) b),
      subst (λ (p : ℕ). After places (record_at places p) zs) (sym same_place) a,
    )

  module _ (x y : ℕ) (ix : Inside places x) (iy : Inside places y) where
    pub left_more : y % 256 < x % 256 → Turned places x y x x y 1 0
    left_more h = record {
      next = λ k xs ys p q. p.0;
      left_on = λ k xs ys p q. p.1;
      right_on = λ k xs ys p q. (nearer (x % 256) (y % 256) k (record_of places x) (record_of places y) p.0 q.0 h, q.1);
      members = λ k xs ys p q j. or_group (same j (record_of places x)) (among j (records_of places xs)) (among j (records_of places (y ∷ ys)));
      first_inside = ix;
      left_inside = ix;
      right_inside = iy;
      some = omega arith;
      left_few = omega arith;
      right_few = omega arith;
    }

    -- heads with as much in common with what was put last
    module _ (e : x % 256 ≡ y % 256) where
      alike : (k xs ys : List ℕ) → After places k (x ∷ xs) → After places k (y ∷ ys) → take (x % 256) (record_of places x) ≡ take (x % 256) (record_of places y)
      alike k xs ys p q =
          shared (x % 256) k (record_of places x) (record_of places y) p.0 (subst (λ (n : ℕ). Below n k (record_of places y)) (sym e) q.0)

      equals : Common (record_of places x) (record_of places y) (x % 256) 256 → (k xs ys : List ℕ) → After places k (x ∷ xs) → After places k (y ∷ ys) →
          record_of places x ≡ record_of places y
      equals c k xs ys p q =
          equal (record_of places x) (record_of places y) (x % 256) (record_long places (x / 256) ix.within) (record_long places (y / 256) iy.within) c
          (alike k xs ys p q)

      pub left_both : Common (record_of places x) (record_of places y) (x % 256) 256 → Turned places x y x x y 1 1
      left_both c = record {
        next = λ k xs ys p q. p.0;
        left_on = λ k xs ys p q. p.1;
        right_on = λ k xs ys p q. subst (λ (r : List ℕ). After places r ys) (sym (equals c k xs ys p q)) q.1;
        members = λ k xs ys p q j.
            ap (λ (r : List ℕ). or (or (same j (record_of places x)) (among j (records_of places xs))) (or (same j r) (among j (records_of places ys))))
            (sym (equals c k xs ys p q))
            ∙ or_once (same j (record_of places x)) (among j (records_of places xs)) (among j (records_of places ys));
        first_inside = ix;
        left_inside = ix;
        right_inside = iy;
        some = omega arith;
        left_few = omega arith;
        right_few = omega arith;
      }

      pub left_less : (c : ℕ) → Common (record_of places x) (record_of places y) (x % 256) c → c < 256 → get_or (record_of places x) c 0 < get_or (record_of places y) c 0 →
          Turned places x y x x (y - y % 256 + c) 1 0
      left_less c d h l = record {
        next = λ k xs ys p q. p.0;
        left_on = λ k xs ys p q. p.1;
        right_on = λ k xs ys p q. goes_on y c h (record_of places x) ys (lower (d.alike.before (alike k xs ys p q))) q.1;
        members = λ k xs ys p q j.
            or_group (same j (record_of places x)) (among j (records_of places xs)) (among j (records_of places (y ∷ ys)))
            ∙ ap (λ (n : ℕ). or (same j (record_of places x)) (or (among j (records_of places xs)) (or (same j (record_at places n)) (among j (records_of places ys)))))
            (sym (same_place y c h));
        first_inside = ix;
        left_inside = ix;
        right_inside = still_inside y c h iy;
        some = omega arith;
        left_few = omega arith;
        right_few = omega arith;
      }
        where
          lower : take c (record_of places x) ≡ take c (record_of places y) → Below c (record_of places x) (record_of places y)
          lower q =
              below_at c (record_of places x) (record_of places y) q
              (omega (arith, record_long places (x / 256) ix.within))
              (omega (arith, record_long places (y / 256) iy.within))
              l

  -- the same, of the right head
  module _ (x y : ℕ) (ix : Inside places x) (iy : Inside places y) where
    pub right_more : x % 256 < y % 256 → Turned places x y y x y 0 1
    right_more h = swap x y y x y 0 1 (left_more y x iy ix h)

    pub right_less : x % 256 ≡ y % 256 → (c : ℕ) → Common (record_of places x) (record_of places y) (x % 256) c → c < 256 →
        get_or (record_of places y) c 0 ≤ get_or (record_of places x) c 0 →
        Turned places x y y (x - x % 256 + c) y 0 1
    right_less e c d h l =
        let n : get_or (record_of places x) c 0 ≡ get_or (record_of places y) c 0 → ⊥ = d.there h in
        let f : Common (record_of places y) (record_of places x) (y % 256) c =
        subst (λ (m : ℕ). Common (record_of places y) (record_of places x) m c) e (common_swap (record_of places x) (record_of places y) (x % 256) c d) in
        swap x y y (x - x % 256 + c) y 0 1 (left_less y x iy ix (sym e) c f h (lt_of_not_eq n l))
      where
        lt_of_not_eq : {a b : ℕ} → (a ≡ b → ⊥) → b ≤ a → b < a
        lt_of_not_eq n l = omega arith
