-- Where a merge stands in its two lists of numbers: at the start, after a turn, and when the rest is copied. Assumes nothing.
use Prim.Native.Nat.{ℕ, suc, ◌+◌, ◌-◌, ◌≤◌, ◌<◌}
use mathlib.Core.Path.{◌≡◌, refl, sym, ap, ◌∙◌, subst}
use mathlib.Core.List.{List, [], ◌∷◌, ◌++◌}
use mathlib.Core.Logic.{◌⊎◌, inl, inr}
use native.Mathlib.Numerals.{add-one}
use native.Mathlib.Omega.{arith}
use lib.ListN.{length, get_or, set, take, drop, length-set, length-append}
use lib.Seq.{slice, slice-cons, slice_empty, length-slice, length-take-le, take-suc-set}
use Rattle.lent.specs.Put.{Put}
use Rattle.lent.proofs.Stores.{take_sets}
use Rattle.lent.proofs.Putting.{put_then}
use Rattle.catalogue_distinct.specs.Promises.{Inside, Turned, Halves, Merging, Stands, Stopped, Merged}
use Rattle.catalogue_distinct.proofs.Slices.{slice_before, slice_behind, slice_first, slice_skip}
use Rattle.catalogue_distinct.proofs.Merging.{merging_start, merging_on, merging_end, merging_as}

module _ (places before : List ℕ) (half a end : ℕ) where
  pub stands_start : (spare : List ℕ) → Halves places before spare half a end → Stands places before before spare half a end 0 half 0
  stands_start spare h = record {
    state = merging_start places (take a before) (slice half end before) h.left h.right;
    left_end = omega arith;
    right_start = omega arith;
    right_end = h.right_start;
    few = omega arith;
  }

  -- both runs have a number left
  module _ (runs spare : List ℕ) (left right put : ℕ) (s : Stands places before runs spare half a end left right put)
      (ll : left < a) (lr : right < end) (ha : a ≤ half) (he : end ≤ length runs) where
    heads : Merging places (take a before) (slice half end before) (take put spare)
        (get_or runs left 0 ∷ slice (suc left) a runs) (get_or runs right 0 ∷ slice (suc right) end runs)
    heads =
        let h = s.right_start in
        merging_as places (take a before) (slice half end before) (take put spare) (take put spare)
        (slice left a runs) (get_or runs left 0 ∷ slice (suc left) a runs) (slice right end runs) (get_or runs right 0 ∷ slice (suc right) end runs)
        refl (sym (slice-cons left a runs 0 ll (omega arith))) (sym (slice-cons right end runs 0 lr he)) s.state

    pub heads_inside : Inside places (get_or runs left 0) × Inside places (get_or runs right 0)
    heads_inside = (heads.left_inside.0, heads.right_inside.0)

    pub stands_on : (first x' y' l r : ℕ) → put < length spare → Turned places (get_or runs left 0) (get_or runs right 0) first x' y' l r →
        Stands places before (set (set runs left x') right y') (set spare put first) half a end (left + l) (right + r) (put + 1)
    stands_on first x' y' l r room t =
        let h = s.right_start in
        let zs = take put spare in
        let xs = slice (suc left) a runs in
        let ys = slice (suc right) end runs in
        let after = set (set runs left x') right y' in
        let ez : take (put + 1) (set spare put first) ≡ zs ++ (first ∷ []) =
        ap (λ (n : ℕ). take n (set spare put first)) (add-one put) ∙ take-suc-set spare put first room in
        let ex : slice (left + l) a after ≡ drop l (x' ∷ xs) =
        slice_skip left l a after ∙ ap (drop l) (slice_behind left a (set runs left x') right y' (omega arith) ∙ slice_first left a runs x' ll (omega arith)) in
        let ey : slice (right + r) end after ≡ drop r (y' ∷ ys) =
        slice_skip right r end after ∙ ap (drop r) (slice_first right end (set runs left x') y' lr (omega (arith, length-set runs left x'))
        ∙ ap (λ (q : List ℕ). y' ∷ q) (slice_before (suc right) end runs left x' (omega arith))) in
        record {
          state =
              merging_as places (take a before) (slice half end before) (zs ++ (first ∷ [])) (take (put + 1) (set spare put first))
              (drop l (x' ∷ xs)) (slice (left + l) a after) (drop r (y' ∷ ys)) (slice (right + r) end after) ez ex ey
              (merging_on places (take a before) (slice half end before) zs (get_or runs left 0) (get_or runs right 0) xs ys first x' y' l r t heads);
          left_end = omega (arith, t.left_few);
          right_start = omega arith;
          right_end = omega (arith, t.right_few);
          few = omega (arith, t.some, s.few);
        }

  -- the rest of the left run is copied, then that of the right
  pub stands_end : (runs spare s₁ s₂ : List ℕ) (left right put p r : ℕ) → Stopped places before runs spare half a end left right put →
      a ≤ half → end ≤ length runs → length runs ≤ length spare → Put spare put (slice left a runs) s₁ p → Put s₁ p (slice right end runs) s₂ r →
      Merged places (take a before) (slice half end before) (take r s₂) × (r + half ≤ a + end)
  stands_end runs spare s₁ s₂ left right put p r d ha he room u v =
      let s = d.stands in
      let xs = slice left a runs in
      let ys = slice right end runs in
      let w : Put spare put (xs ++ ys) s₂ r = put_then u v in
      let lx : length xs ≡ a - left = length-slice left a runs (omega (arith, s.right_start, s.right_end)) in
      let ly : length ys ≡ end - right = length-slice right end runs he in
      let lxy : length (xs ++ ys) ≡ (a - left) + (end - right) = length-append xs ys ∙ (λ i. lx i + ly i) in
      let fits : put + length (xs ++ ys) ≤ length spare = omega (arith, lxy, s.few, s.left_end, s.right_start, s.right_end) in
      let e : take r s₂ ≡ take put spare ++ (xs ++ ys) = (λ i. take (w.next i) (w.written i)) ∙ take_sets (xs ++ ys) spare put fits in (
        subst (λ (l : List ℕ). Merged places (take a before) (slice half end before) l) (sym e)
            (merging_end places (take a before) (slice half end before) (take put spare) xs ys s.state (over d.over)),
        omega (arith, lxy, w.next, s.few, s.left_end, s.right_start, s.right_end),
      )
    where
      over : (left ≡ a) ⊎ (right ≡ end) → (slice left a runs ≡ []) ⊎ (slice right end runs ≡ [])
      over (inl q) = inl (ap (λ (n : ℕ). slice n a runs) q ∙ slice_empty a runs)
      over (inr q) = inr (ap (λ (n : ℕ). slice n end runs) q ∙ slice_empty end runs)

-- what a merge put is copied to the front of the runs
pub copied_back : (places xs ys spare runs after : List ℕ) (put r : ℕ) → Merged places xs ys (take put spare) → put ≤ length spare → put ≤ length runs →
    Put runs 0 (slice 0 put spare) after r → Merged places xs ys (take r after) × (r ≡ put)
copied_back places xs ys spare runs after put r m hs hr w =
    let long : length (slice 0 put spare) ≡ put = length-take-le put spare hs in
    let e : take r after ≡ take put spare = (λ i. take (w.next i) (w.written i)) ∙ take_sets (slice 0 put spare) runs 0 (omega arith) in
    (subst (λ (l : List ℕ). Merged places xs ys l) (sym e) m, omega (arith, w.next))
