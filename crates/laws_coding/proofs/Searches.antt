-- What a search gives, for any characters by any candidates. Assumes nothing.
use mathlib.Core.Path.{◌≡◌, refl, ap, subst, ◌∙◌}
use mathlib.Core.Logic.{◌⊎◌, inl, inr}
use mathlib.Core.List.{List, [], ◌∷◌, reverse_aux, reverse_aux-reverse_aux-nil}
use Prim.Native.Nat.{ℕ, ◌+◌, ◌-◌, ◌*◌, ◌≤◌}
use native.Mathlib.Omega.{arith}
use lib.ListN.{length, length-reverse_aux}
use Rattle.coding.specs.State.{State, start}
use Rattle.coding.specs.Candidates.{Cand}
use Rattle.coding.specs.Search.{Node, node, newest, least, first_of, begin, Run, run, finish, gap_of, code}
use Rattle.coding.specs.Admissible.{Admissible, done, control, write}
use Rattle.base.specs.Lists.{All}
use Rattle.coding.specs.Admissible.{Some, here}
use Rattle.laws_coding.specs.Coding.{dropped, Gap}
use Rattle.laws_coding.proofs.Somewhere.{some_map, meet}
use Rattle.laws_coding.proofs.Distance.{distance_none}
use Rattle.laws_coding.proofs.Near.{Near, Invokes}
use Rattle.laws_coding.proofs.Gap.{lowered, run_floor, floor_least, ends}
use Rattle.laws_coding.proofs.Written.{OfTables}
use Rattle.laws_coding.proofs.Chains.{Chain, begins, run_chain, back_length, back_writes, back_nine}
use Rattle.laws_coding.proofs.Cheapest.{Filled, least_most, cheapest, run_filled}

-- a search for characters with the candidates css
module _ (css : List (List Cand)) (initial : ℕ) where
  abbrev ran : Run
  ran = run css (begin initial)

  abbrev last : List Node
  last = newest ran.layers

  abbrev sums : List ℕ
  sums = dropped css (node 0 0 (start initial) [] ∷ [])

  chain : (C : Type 0) → (C → All (All OfTables) css) → Chain C (start initial) (reverse_aux css []) ran.layers
  unfolding begin
  chain C fine = run_chain C (start initial) css fine [] (begin initial) begins

  filled : All Filled css → Filled last
  unfolding begin newest
  filled a = run_filled css a (begin initial) (here tt)

  out_length : All Filled css → length (code css initial).out ≡ least last
  unfolding code finish
  out_length a =
      let q = cheapest last (filled a) in
      omega (arith, back_length ⊥ (start initial) (chain ⊥ (λ x. absurd x)) (first_of (least last) last) q.0 [], q.1)

  pub out_admissible : All (All OfTables) css → All Filled css → Admissible (start initial) css (code css initial).out
  unfolding code finish start
  out_admissible fine a =
      let q = cheapest last (filled a) in
      subst (λ (x : List (List Cand)). Admissible (start initial) x (code css initial).out) (reverse_aux-reverse_aux-nil css [])
      (back_writes (Unit {0}) (start initial) tt (omega arith) (chain (Unit {0}) (λ x. fine)) (first_of (least last) last) q.0 [] [] (done _))

  pub out_nine : All (All OfTables) css → length (code css initial).out ≤ 9 * length css
  unfolding code finish
  out_nine fine = omega (arith, back_nine (Unit {0}) (start initial) tt (chain (Unit {0}) (λ x. fine)) (first_of (least last) last) [], length-reverse_aux css [])

  gap_is : (code css initial).gap ≡ gap_of (length (code css initial).out) (lowered 0 sums)
  unfolding code finish begin newest
  gap_is = ap (gap_of (length (code css initial).out)) (run_floor css (begin initial))

-- the gap by the sums of what was dropped
gap_floor : (len f : ℕ) (l : List ℕ) → Some (λ x. x ≡ f) l → All (λ x. f ≤ x) l → gap_of len (lowered 0 l) ≡ len - f
unfolding gap_of
gap_floor len f [] t a = elim t [ ]
gap_floor len f (x ∷ l) t a =
    let q = floor_least x l in
    let m = q.value in
    let low : m ≤ f = meet (λ y. m ≤ y) (λ y. y ≡ f) (m ≤ f) (x ∷ l) q.least.none_less t (λ y p e. omega arith) in
    let high : f ≤ m = meet (λ y. f ≤ y) (λ y. y ≡ m) (f ≤ m) (x ∷ l) a q.least.among (λ y p e. omega arith) in
    rw q.is (omega arith)

gap_none : (len : ℕ) (l : List ℕ) → l ≡ [] → gap_of len (lowered 0 l) ≡ 0
unfolding gap_of lowered
gap_none len l e = rw e refl

pub gap_by : (css : List (List Cand)) (initial : ℕ) → Gap (length (code css initial).out) (code css initial).gap (sums css initial)
gap_by css initial =
    let len = length (code css initial).out in
    record {
      nothing = λ e. gap_is css initial ∙ gap_none len _ e;
      floor = λ f k. gap_is css initial ∙ gap_floor len f _ k.among k.none_less;
    }

gap_most : (len c : ℕ) (l : List ℕ) → Some (λ x. x ≤ c) l → len ≤ c + gap_of len (lowered 0 l)
unfolding gap_of
gap_most len c [] t = elim t [ ]
gap_most len c (x ∷ l) t =
    let q = floor_least x l in
    let m = q.value in
    let low : m ≤ c = meet (λ y. m ≤ y) (λ y. y ≤ c) (m ≤ c) (x ∷ l) q.least.none_less t (λ y p h. omega arith) in
    rw q.is (omega arith)

-- what an admissible coding writes has candidates
written : {s : State} {css : List (List Cand)} {bs : List ℕ} → Admissible s css bs → All Filled css
written (done s) = tt
written (control k d) = written d
written (write w d) = (some_map w (λ k h. tt), written d)

pub no_shorter_any : (css : List (List Cand)) (initial : ℕ) (bs : List ℕ) → Admissible (start initial) css bs → length (code css initial).out ≤ length bs + (code css initial).gap
unfolding begin newest start
no_shorter_any css initial bs d = go (ends d (begin initial) 0 (elements initial) (near (start initial)))
  where
    elements : (n : ℕ) → Invokes (start n)
    elements n = record { gl_most = omega arith; gr_least = omega arith; gr_most = omega arith }

    near : (s : State) → Some (Near s 0) (node 0 0 s [] ∷ [])
    near s = let q : Near s 0 (node 0 0 s []) = omega (arith, distance_none s) in here q

    go : Some (λ n. n.cost ≤ 0 + length bs) (last css initial) ⊎ Some (λ x. x ≤ 0 + length bs) (sums css initial) → length (code css initial).out ≤ length bs + (code css initial).gap
    go (inl q) = omega (arith, out_length css initial (written d), least_most (0 + length bs) q)
    go (inr q) = rw gap_is (omega (arith, gap_most (length (code css initial).out) (0 + length bs) (sums css initial) q))
