-- The ways through a code element, with its designation, and to a set. Assumes nothing.
use mathlib.Core.Path.{◌≡◌, refl, sym, ap, ◌∙◌, subst}
use mathlib.Core.List.{List, [], ◌∷◌, ◌++◌, append_assoc}
use Prim.Native.Nat.{ℕ, zero, suc, ◌+◌, ◌*◌, ◌/◌, ◌%◌, ◌<◌}
use native.Mathlib.Numerals.{add-one}
use native.Mathlib.Omega.{arith}
use lib.ListN.{length}
use borrow.Author.Tests.{eq-eqb, ne_eqb}
use Rattle.sets.specs.Sets.{designation}
use Rattle.coding.specs.State.{State, set_in, designate}
use Rattle.coding.specs.Candidates.{Cand}
use Rattle.coding.specs.Ways.{Way, through, by_element, ways}
use Rattle.coding.specs.Search.{Node, by_ways}
use Rattle.encode_states.specs.Packed.{set_of, unpack, Codes}
use Rattle.encode_states.specs.Written.{written}
use Rattle.encode_states.proofs.Same.{one_set}
use Rattle.encode_layer.specs.Layer.{Bounds, Pushes}
use Rattle.encode_ways.specs.Turn.{Turn, Through, By, prefix, up_to}
use Rattle.encode_ways.proofs.Chain.{none, and, pushes_as, reached}

-- designation leaves the invocations, and a set that stands there already
pub same_gl : (s : State) (n x : ℕ) → (designate s n x).gl ≡ s.gl
unfolding designate
same_gl s zero x = refl
same_gl s (suc zero) x = refl
same_gl s (suc (suc zero)) x = refl
same_gl s (suc (suc (suc n))) x = refl

pub same_gr : (s : State) (n x : ℕ) → (designate s n x).gr ≡ s.gr
unfolding designate
same_gr s zero x = refl
same_gr s (suc zero) x = refl
same_gr s (suc (suc zero)) x = refl
same_gr s (suc (suc (suc n))) x = refl

same_set : (s : State) (n x : ℕ) → set_in s n ≡ x → designate s n x ≡ s
unfolding designate set_in
same_set s zero x e = λ i. record { g0 = sym e i; g1 = s.g1; g2 = s.g2; g3 = s.g3; gl = s.gl; gr = s.gr; narrow = s.narrow }
same_set s (suc zero) x e = λ i. record { g0 = s.g0; g1 = sym e i; g2 = s.g2; g3 = s.g3; gl = s.gl; gr = s.gr; narrow = s.narrow }
same_set s (suc (suc zero)) x e = λ i. record { g0 = s.g0; g1 = s.g1; g2 = sym e i; g3 = s.g3; gl = s.gl; gr = s.gr; narrow = s.narrow }
same_set s (suc (suc (suc n))) x e = λ i. record { g0 = s.g0; g1 = s.g1; g2 = s.g2; g3 = sym e i; gl = s.gl; gr = s.gr; narrow = s.narrow }

module _ (s : State) (n y x : ℕ) (c : Codes y (set_in s n)) where
  stands_there : y ≡ x → by_element s (set_of x) n ≡ through [] (designate s n (set_of x)) n
  unfolding by_element
  stands_there e =
      let q : set_in s n ≡ set_of x = sym c.is ∙ ap set_of e in
      rw (same_set s n (set_of x) q, eq-eqb (set_in s n) (set_of x) q)

  is_designated : (y ≡ x → ⊥) → by_element s (set_of x) n ≡ through (designation (set_of x) n) (designate s n (set_of x)) n
  unfolding by_element
  is_designated e = rw (ne_eqb (set_in s n) (set_of x) (λ q. e (one_set y x (c.is ∙ q))))

-- the numbers of a way through the code element n, designated (1) or not (0)
module _ (cs : List Cand) (t : Turn) (x cost link : ℕ) (w : By cs t x cost link) where
  through_of : (n d more k : ℕ) → n < 4 → d < 2 → more ≡ cost + length (prefix d x n) → k ≡ link + n * 8388608 + d * 33554432 → Through cs t (prefix d x n) n more k
  through_of n d more k hn hd em ek =
      record {
        costs = omega (arith, w.costs);
        prev = λ v. let e : k + v * 67108864 ≡ link + (n + 4 * (d + 2 * v)) * 8388608 = omega arith in ap (λ (y : ℕ). y % 131072) e ∙ w.prev (n + 4 * (d + 2 * v));
        bytes = λ v. let e : k + v * 67108864 ≡ link + (n + 4 * (d + 2 * v)) * 8388608 = omega arith in ap (λ (y : ℕ). written cs (y / 131072)) e ∙ w.bytes n d v hn hd;
      }

  pub through_standing : (n : ℕ) → n < 4 → Through cs t [] n cost (link + n * 8388608)
  through_standing n h = through_of n 0 cost (link + n * 8388608) h (omega arith) (omega arith) (omega arith)

  pub through_designated : (n c : ℕ) → n < 4 → c ≡ length (designation (set_of x) n) → Through cs t (designation (set_of x) n) n (cost + c) (link + n * 8388608 + 33554432)
  through_designated n c h e = through_of n 1 (cost + c) (link + n * 8388608 + 33554432) h (omega arith) (ap (λ (y : ℕ). cost + y) e) (omega arith)

  -- and as it stands, with no element
  pub through_none : Through cs t [] 0 cost link
  through_none = through_of 0 0 cost link (omega arith) (omega arith) (omega arith) (omega arith)

by_ways_append : (t : Turn) (ws vs : List Way) → by_ways t.base t.place t.pre t.code (ws ++ vs) ≡ by_ways t.base t.place t.pre t.code ws ++
    by_ways t.base t.place t.pre t.code vs
unfolding by_ways
by_ways_append t [] vs = refl
by_ways_append t (w ∷ ws) vs = ap (λ (l : List Node). reached t w.pre w.to w.hi ∷ l) (by_ways_append t ws vs)

-- the pushes through a code element are those of `by_element`
module _ {cs : List Cand} {r : Bounds} {s s' : List ℕ} {count count' : ℕ} (t : Turn) (q : State) (n y x b : ℕ) (c : Codes y (set_in q n)) (e : unpack b ≡ designate q n (set_of x)) where
  pub element_standing : y ≡ x → Pushes cs r s count s' count' (by_ways t.base t.place t.pre t.code (through [] (unpack b) n)) →
      Pushes cs r s count s' count' (by_ways t.base t.place t.pre t.code (by_element q (set_of x) n))
  element_standing h p = pushes_as _ _ (ap (by_ways t.base t.place t.pre t.code) (ap (λ (z : State). through [] z n) e ∙ sym (stands_there q n y x c h))) p

  pub element_designated : (y ≡ x → ⊥) → Pushes cs r s count s' count'
      (by_ways t.base t.place t.pre t.code (through (designation (set_of x) n) (unpack b) n)) →
      Pushes cs r s count s' count' (by_ways t.base t.place t.pre t.code (by_element q (set_of x) n))
  element_designated h p =
      pushes_as _ _ (ap (by_ways t.base t.place t.pre t.code) (ap (λ (z : State). through (designation (set_of x) n) z n) e ∙ sym (is_designated q n y x c h))) p

-- no code element, and one more
pub up_none : (cs : List Cand) (r : Bounds) (s : List ℕ) (count : ℕ) (t : Turn) (q : State) (x : ℕ) →
    Pushes cs r s count s count (by_ways t.base t.place t.pre t.code (up_to q x 0))
unfolding up_to by_ways
up_none cs r s count t q x = none cs r s count

pub up_one : {cs : List Cand} {r : Bounds} {s s₁ s₂ : List ℕ} {count count₁ count₂ : ℕ} (t : Turn) (q : State) (x n : ℕ) →
    Pushes cs r s count s₁ count₁ (by_ways t.base t.place t.pre t.code (up_to q x n)) →
    Pushes cs r s₁ count₁ s₂ count₂ (by_ways t.base t.place t.pre t.code (by_element q x n)) →
    Pushes cs r s count s₂ count₂ (by_ways t.base t.place t.pre t.code (up_to q x (n + 1)))
unfolding up_to
up_one t q x n a b =
    pushes_as _ _ (sym (ap (λ (m : ℕ). by_ways t.base t.place t.pre t.code (up_to q x m)) (add-one n) ∙ by_ways_append t (up_to q x n) (by_element q x n)))
    (and (by_ways t.base t.place t.pre t.code (up_to q x n)) (by_ways t.base t.place t.pre t.code (by_element q x n)) a b)

-- the ways to a set, by its tests
module _ (t : Turn) (s : State) (x l r : ℕ) (cl : Codes l (set_in s s.gl)) (cr : Codes r (set_in s s.gr)) where
  is : (y n : ℕ) → Codes y (set_in s n) → y ≡ x → set_in s n ≡ set_of x
  is y n c e = sym c.is ∙ ap set_of e

  isnt : (y n : ℕ) → Codes y (set_in s n) → (y ≡ x → ⊥) → set_in s n ≡ set_of x → ⊥
  isnt y n c e q = e (one_set y x (c.is ∙ q))

  abbrev pub nodes : List Node
  nodes = by_ways t.base t.place t.pre t.code (ways s (set_of x))

  pub set_both : l ≡ x → r ≡ x → nodes ≡ reached t [] s 0 ∷ reached t [] s 128 ∷ []
  unfolding by_ways ways
  set_both e f = rw (eq-eqb _ _ (is l s.gl cl e), eq-eqb _ _ (is r s.gr cr f))

  pub set_left : l ≡ x → (r ≡ x → ⊥) → nodes ≡ reached t [] s 0 ∷ []
  unfolding by_ways ways
  set_left e f = rw (eq-eqb _ _ (is l s.gl cl e), ne_eqb _ _ (isnt r s.gr cr f))

  pub set_right : (l ≡ x → ⊥) → r ≡ x → nodes ≡ reached t [] s 128 ∷ []
  unfolding by_ways ways
  set_right e f = rw (ne_eqb _ _ (isnt l s.gl cl e), eq-eqb _ _ (is r s.gr cr f))

  pub set_apart : (l ≡ x → ⊥) → (r ≡ x → ⊥) → nodes ≡ by_ways t.base t.place t.pre t.code (up_to s (set_of x) 4)
  unfolding ways up_to
  set_apart e f = rw (ne_eqb _ _ (isnt l s.gl cl e), ne_eqb _ _ (isnt r s.gr cr f)) (ap (by_ways t.base t.place t.pre t.code) (sym (simp append_assoc)))

pub codes_at : (y n m : ℕ) (s : State) → n ≡ m → Codes y (set_in s n) → Codes y (set_in s m)
codes_at y n m s e c = subst (λ (j : ℕ). Codes y (set_in s j)) e c
