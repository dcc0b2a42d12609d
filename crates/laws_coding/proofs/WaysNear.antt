-- From any state a way to write a character leads no farther from another state than the other's own way. Assumes nothing.
use mathlib.Core.Path.{◌≡◌, refl}
use mathlib.Core.Bool.{Bool, true, false, cond, ◌||◌}
use mathlib.Core.List.{List, [], ◌++◌}
use Prim.Native.Nat.{ℕ, zero, suc, ◌+◌, ◌≤◌, ◌<◌}
use native.Mathlib.Omega.{arith}
use lib.Dec.{eqb}
use lib.ListN.{length, length-append}
use borrow.Author.Tests.{eqb-false, lt-ltb, le-leb}
use Rattle.sets.specs.Sets.{designation}
use Rattle.coding.specs.State.{State, set_in, designate, invoke_gl, invoke_gr, lock_gl, lock_gr, single}
use Rattle.coding.specs.Ways.{Way, way, through, by_element, ways}
use Rattle.base.specs.Lists.{when}
use Rattle.coding.specs.Admissible.{Some, here, there}
use Rattle.base.proofs.Tests.{by_test}
use Rattle.laws_coding.proofs.Somewhere.{some_map, some_left, some_right}
use Rattle.laws_coding.proofs.Distance.{distance, designated, locked_gl, locked_gr}

-- a way that, with the distance left, takes at most c bytes
abbrev pub Within : State → ℕ → Way → Type 0
Within a c w = length w.pre + distance w.to a ≤ c

-- the ways as a set is invoked, or else others
as_it_is : (P : Way → Type 0) (p : List ℕ) (s : State) (gl gr : Bool) (others : List Way) → ((hi : ℕ) → P (way p s hi)) → (gl ≡ false → gr ≡ false → Some P others) →
    Some P (cond (gl || gr) (when gl (way p s 0) ++ when gr (way p s 128)) others)
as_it_is P p s true gr others here? f = here (here? 0)
as_it_is P p s false true others here? f = here (here? 128)
as_it_is P p s false false others here? f = f refl refl

pub single_one : (n : ℕ) → length (single n) ≡ 1
unfolding single
single_one zero = refl
single_one (suc zero) = refl
single_one (suc (suc zero)) = refl
single_one (suc (suc (suc n))) = refl

module _ (a : State) (p : List ℕ) (s : State) where
  through_gl : Some (Within a (length p + distance s a + 0)) (through p s a.gl)
  unfolding through
  through_gl =
      as_it_is (Within a (length p + distance s a + 0)) p s (eqb s.gl a.gl) (eqb s.gr a.gl) _ (λ hi. omega arith) (λ e f.
      let q : Within a (length p + distance s a + 0) (way (p ++ lock_gl a.gl) (invoke_gl s a.gl) 0) = rw length-append (omega (arith, locked_gl s a (eqb-false _ _ e))) in here q)

  through_gr : 1 ≤ a.gr → Some (Within a (length p + distance s a + 0)) (through p s a.gr)
  unfolding through
  through_gr h =
      as_it_is (Within a (length p + distance s a + 0)) p s (eqb s.gl a.gr) (eqb s.gr a.gr) _ (λ hi. omega arith) (λ e f.
      let q : Within a (length p + distance s a + 0) (way (p ++ lock_gr a.gr) (invoke_gr s a.gr) 128) = rw length-append (omega (arith, locked_gr s a (eqb-false _ _ f))) in
      rw (lt-ltb 0 a.gr h) (there (here q)))

  through_single : (n : ℕ) → 2 ≤ n → Some (Within a (length p + distance s a + 1)) (through p s n)
  unfolding through
  through_single n h =
      as_it_is (Within a (length p + distance s a + 1)) p s (eqb s.gl n) (eqb s.gr n) _ (λ hi. omega arith) (λ e f.
      let q : Within a (length p + distance s a + 1) (way (p ++ single n) s 0) = rw length-append (omega (arith, single_one n)) in
      rw (lt-ltb 0 n (omega arith), le-leb 2 n h) (there (there (here q))))

-- through the element n, the set of a designated to it if it does not stand there, with k bytes more
module _ (s a : State) (n k : ℕ) (element : n < 4) (by : (p : List ℕ) (t : State) → Some (Within a (length p + distance t a + k)) (through p t n)) where
  by_element_lem : Some (Within a (distance s a + k)) (by_element s (set_in a n) n)
  unfolding by_element
  by_element_lem =
      by_test (Some (Within a (distance s a + k))) (eqb (set_in s n) (set_in a n)) (λ e. some_map (by [] s) (λ w h. omega arith))
      (λ e. some_map (by (designation (set_in a n) n) (designate s n (set_in a n))) (λ w h. omega (arith, designated s a n element (eqb-false _ _ e))))

  one_of_four : (x m : ℕ) → m < 4 → Some (Within a (distance s a + k)) (by_element s x m) →
      Some (Within a (distance s a + k)) (by_element s x 0 ++ (by_element s x 1 ++ (by_element s x 2 ++ by_element s x 3)))
  one_of_four x zero h r = some_left _ r
  one_of_four x (suc zero) h r = some_right (by_element s x 0) (some_left _ r)
  one_of_four x (suc (suc zero)) h r = some_right (by_element s x 0) (some_right (by_element s x 1) (some_left _ r))
  one_of_four x (suc (suc (suc zero))) h r = some_right (by_element s x 0) (some_right (by_element s x 1) (some_right (by_element s x 2) r))
  one_of_four x (suc (suc (suc (suc m)))) h r = absurd (omega arith)

  ways_within : Some (Within a (distance s a + k)) (ways s (set_in a n))
  unfolding ways
  ways_within =
      as_it_is (Within a (distance s a + k)) [] s (eqb (set_in s s.gl) (set_in a n)) (eqb (set_in s s.gr) (set_in a n)) _ (λ hi. omega arith)
      (λ e f. one_of_four (set_in a n) n element by_element_lem)

pub ways_gl : (s a : State) → a.gl < 4 → Some (Within a (distance s a + 0)) (ways s (set_in a a.gl))
ways_gl s a h = ways_within s a a.gl 0 h (through_gl a)

pub ways_gr : (s a : State) → 1 ≤ a.gr → a.gr < 4 → Some (Within a (distance s a + 0)) (ways s (set_in a a.gr))
ways_gr s a l h = ways_within s a a.gr 0 h (λ p t. through_gr a p t l)

pub ways_single : (s a : State) (n : ℕ) → 2 ≤ n → n < 4 → Some (Within a (distance s a + 1)) (ways s (set_in a n))
ways_single s a n l h = ways_within s a n 1 h (λ p t. through_single a p t n l)
