-- A list whose two parts are lent one after the other, and given back. Assumes nothing.
use Prim.Native.Nat.{ℕ, ◌+◌, ◌-◌, ◌≤◌}
use mathlib.Core.Path.{◌≡◌, sym, ap, ap₂, ◌∙◌, subst}
use mathlib.Core.List.{List, ◌++◌, append-nil}
use native.Mathlib.Omega.{arith}
use lib.ListN.{length, take, drop, length-drop, length-append, drop_of_length-le}
use lib.Seq.{slice, length-take-le, length_front, take_at}
use Rattle.catalogue_distinct.specs.Promises.{Sorted, Halves, Merged, Holds}
use Rattle.catalogue_distinct.proofs.Slices.{first_part, second_part_lem}
use Rattle.catalogue_distinct.proofs.Sorting.{holds_both}

-- e is given back for the first part
abbrev pub first_back : List ℕ → ℕ → List ℕ → List ℕ
first_back l half e = e ++ drop half l

abbrev pub second_part : List ℕ → ℕ → List ℕ
second_part m half = take (length m - half) (drop half m)

-- f is given back for the second
abbrev pub second_back : List ℕ → ℕ → List ℕ → List ℕ
second_back m half f = take half m ++ (f ++ drop (length m - half) (drop half m))

module _ (l e : List ℕ) (half : ℕ) (h : half ≤ length l) (le : length e ≡ length (take half l)) where
  e_long : length e ≡ half
  e_long = le ∙ length-take-le half l h

  pub first_long : length (first_back l half e) ≡ length l
  first_long = length_front l e half le

  pub second_long : length (second_part (first_back l half e) half) ≡ length l - half
  second_long =
      let m = first_back l half e in
      length-take-le (length m - half) (drop half m) (omega (arith, length-drop half m)) ∙ ap (λ (n : ℕ). n - half) first_long

  module _ (f : List ℕ) (lf : length f ≡ length (second_part (first_back l half e) half)) where
    both : second_back (first_back l half e) half f ≡ e ++ f
    both =
        let m = first_back l half e in
        ap₂ (λ (x y : List ℕ). x ++ (f ++ y)) (take_at e (drop half l) half e_long)
        (drop_of_length-le (drop half m) {i = length m - half} (omega (arith, length-drop half m)))
        ∙ ap (λ (x : List ℕ). e ++ x) (append-nil f)

    pub both_long : length (second_back (first_back l half e) half f) ≡ length l
    both_long = ap length both ∙ omega (arith, length-append e f, e_long, lf, second_long)

    -- a run in each part
    module _ (a b : ℕ) (ha : a ≤ length (take half l)) (hb : b ≤ length (second_part (first_back l half e) half)) where
      few : a ≤ half
      few = omega (arith, length-take-le half l h)

      left_run : take a (second_back (first_back l half e) half f) ≡ take a e
      left_run = ap (take a) both ∙ first_part e f half a e_long few

      right_run : slice half (half + b) (second_back (first_back l half e) half f) ≡ take b f
      right_run = ap (slice half (half + b)) both ∙ second_part_lem e f half b e_long

      module _ (places : List ℕ) (from : ℕ) (p : Holds places from (length (take half l)) (take a e))
          (q : Holds places (from + half) (length (second_part (first_back l half e) half)) (take b f)) where
        pub halves : (spare : List ℕ) → length l ≤ length spare → Halves places (second_back (first_back l half e) half f) spare half a (half + b)
        halves spare hs = record {
          left = subst (Sorted places) (sym left_run) p.sorted;
          right = subst (Sorted places) (sym right_run) q.sorted;
          left_end = few;
          right_start = omega arith;
          right_end = omega (arith, both_long, second_long);
          room = omega (arith, both_long);
        }

        -- and the run of both
        pub holds_joined : (zs : List ℕ) (r : ℕ) →
            Merged places (take a (second_back (first_back l half e) half f)) (slice half (half + b) (second_back (first_back l half e) half f)) zs →
            r + half ≤ a + (half + b) → Holds places from (length l) zs × (r ≤ length l)
        holds_joined zs r w small =
            let n : length (take half l) ≡ half = length-take-le half l h in (
              holds_both places from (length l) half (length (second_part (first_back l half e) half)) (take a e) (take b f) zs (omega (arith, second_long))
                  (subst (λ (k : ℕ). Holds places from k (take a e)) n p) q
                  (subst (λ (y : List ℕ). Merged places (take a e) y zs) right_run
                  (subst (λ (x : List ℕ). Merged places x (slice half (half + b) (second_back (first_back l half e) half f)) zs) left_run w)),
              omega (arith, few, second_long),
            )
