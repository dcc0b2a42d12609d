-- The run of no place, of one, and of two parts; and the count of different records. Assumes nothing.
use Prim.Native.Nat.{ℕ, zero, suc, ◌+◌, ◌*◌, ◌/◌, ◌%◌, ◌≤◌, ◌<◌}
use mathlib.Core.Path.{◌≡◌, refl, sym, ap, ap₂, ◌∙◌, subst}
use mathlib.Core.List.{List, [], ◌∷◌, ◌++◌}
use native.Mathlib.Nat.{zero-add, suc-add}
use native.Mathlib.Omega.{arith}
use lib.ListN.{length, set, take, drop}
use lib.Seq.{drop-drop, take-suc-set, length-take-le}
use Rattle.catalogue_distinct.specs.Distinct.{among, distinct, records}
use Rattle.catalogue_distinct.specs.Runs.{record_at, record_of, records_of, Below, or}
use Rattle.catalogue_distinct.specs.Promises.{Merged, Holds}
use Rattle.catalogue_distinct.proofs.Same.{among_append}
use Rattle.catalogue_distinct.proofs.Order.{below_none}
use Rattle.catalogue_distinct.proofs.Bytes.{record_long}
use Rattle.catalogue_distinct.proofs.Runs.{all_different}
use Rattle.catalogue_distinct.proofs.Counting.{as_many}

-- the records of so many places, and of those behind them
pub records_split : (h m : ℕ) (l : List ℕ) → records (h + m) l ≡ records h l ++ records m (drop (h * 260) l)
records_split zero m l =
    let z : zero * 260 ≡ zero = omega arith in
    ap₂ (λ (n i : ℕ). records n (drop i l)) (zero-add m) (sym z)
records_split (suc h) m l =
    let e : 260 + h * 260 ≡ suc h * 260 = omega arith in
    ap (λ (n : ℕ). records n l) (suc-add h m)
    ∙ ap (λ (r : List (List ℕ)). take 256 (drop 4 l) ∷ r)
    (records_split h m (drop 260 l) ∙ ap (λ (r : List ℕ). records h (drop 260 l) ++ records m r) (drop-drop (h * 260) 260 l ∙ ap (λ (n : ℕ). drop n l) e))

module _ (places : List ℕ) (from : ℕ) where
  pub holds_none : (n : ℕ) → n ≡ 0 → Holds places from n []
  holds_none n e = subst (λ (m : ℕ). Holds places from m []) (sym e) (record { sorted = record { order = tt; inside = tt }; members = λ k. refl })

  one : (from + 1) * 260 ≤ length places → from < 1024 → Holds places from 1 ((from * 256) ∷ [])
  one h l =
      let p : from * 256 / 256 ≡ from = omega arith in
      let z : from * 256 % 256 ≡ 0 = omega arith in
      let same-record : record_of places (from * 256) ≡ take 256 (drop 4 (drop (from * 260) places)) =
      ap (record_at places) p ∙ ap (take 256) (sym (drop-drop 4 (from * 260) places)) in
      let long : length (record_of places (from * 256)) ≡ 256 = ap (λ (n : ℕ). length (record_at places n)) p ∙ record_long places from (omega arith) in
      record {
        sorted =
            record {
              order = (subst (λ (n : ℕ). Below n [] (record_of places (from * 256))) (sym z) (below_none (record_of places (from * 256)) (omega arith)), tt);
              inside = (record { within = omega arith; small = omega arith }, tt);
            };
        members = λ k. ap (λ (r : List ℕ). among k (r ∷ [])) same-record;
      }

  pub holds_one : (n : ℕ) (runs : List ℕ) → n ≡ 1 → length runs ≡ n → (from + n) * 260 ≤ length places → from + n ≤ 1024 →
      Holds places from n (take 1 (set runs 0 (from * 256)))
  holds_one n runs e l h k =
      subst (λ (m : ℕ). Holds places from m (take 1 (set runs 0 (from * 256)))) (sym e)
      (subst (λ (r : List ℕ). Holds places from 1 r) (sym (take-suc-set runs 0 (from * 256) (omega arith)))
      (one (subst (λ (m : ℕ). (from + m) * 260 ≤ length places) e h) (omega arith)))

  -- the records of the two parts
  pub holds_both : (n half m : ℕ) (xs ys zs : List ℕ) → half + m ≡ n →
      Holds places from half xs → Holds places (from + half) m ys → Merged places xs ys zs → Holds places from n zs
  holds_both n half m xs ys zs e p q w = record {
    sorted = w.sorted;
    members = λ k. w.members k ∙ (ap₂ or (p.members k) (q.members k) ∙ sym (parts k));
  }
    where
      behind : drop (half * 260) (drop (from * 260) places) ≡ drop ((from + half) * 260) places
      behind = let d : from * 260 + half * 260 ≡ (from + half) * 260 = omega arith in drop-drop (half * 260) (from * 260) places ∙ ap (λ (i : ℕ). drop i places) d

      parts : (k : List ℕ) → among k (records n (drop (from * 260) places))
          ≡ or (among k (records half (drop (from * 260) places))) (among k (records m (drop ((from + half) * 260) places)))
      parts k =
          ap (λ (i : ℕ). among k (records i (drop (from * 260) places))) (sym e)
          ∙ (ap (among k) (records_split half m (drop (from * 260) places))
          ∙ (among_append k (records half (drop (from * 260) places)) (records m (drop (half * 260) (drop (from * 260) places)))
          ∙ ap (λ (l : List ℕ). or (among k (records half (drop (from * 260) places))) (among k (records m l))) behind))

-- a run's length is how many different records there are
pub counted : (places run : List ℕ) (n : ℕ) → Holds places 0 n run → length run ≡ distinct (records n places)
counted places run n h =
    let z : 0 * 260 ≡ 0 = omega arith in
    sym (all_different places [] run h.sorted.order)
    ∙ as_many (records_of places run) (records n places) (λ k. h.members k ∙ ap (λ (i : ℕ). among k (records n (drop i places))) z)

-- room for all places, of which n numbers are lent
module _ (room places : List ℕ) (n : ℕ) (l : length room ≡ 1024) (h : n ≤ 1024) where
  pub part_long : length (take n room) ≡ n
  part_long = length-take-le n room (omega arith)

  pub room_fits : n * 260 ≤ length places →
      (0 + length (take n room) ≤ 1024) × ((0 + length (take n room)) * 260 ≤ length places) × (length (take n room) ≤ length room)
  room_fits k = (omega (arith, part_long), omega (arith, part_long), omega (arith, part_long))

  pub count_is : (after : List ℕ) (r : ℕ) → Holds places 0 (length (take n room)) (take r after) → r ≤ length (take n room) → length after ≡ length (take n room) →
      r ≡ distinct (records n places)
  count_is after r p few long =
      sym (length-take-le r after (omega arith)) ∙ counted places (take r after) n (subst (λ (k : ℕ). Holds places 0 k (take r after)) part_long p)
