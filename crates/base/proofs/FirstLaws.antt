-- The first place that reads as a character: the search one place further, what it finds, and where it finds nothing.
-- Assumes nothing.
use mathlib.Core.Path.{◌≡◌, refl, sym, ap, ◌∙◌, subst}
use mathlib.Core.Bool.{Bool, true, false}
use mathlib.Core.List.{List}
use mathlib.Core.Logic.{◌⊎◌, inl, inr, ⊎_elim}
use mathlib.Core.Option.{Option, none, some}
use Prim.Native.Nat.{ℕ, zero, suc, ◌+◌, ◌-◌, ◌<◌, ◌≤◌}
use native.Mathlib.Nat.{add-zero}
use native.Mathlib.Numerals.{add-one}
use native.Mathlib.Omega.{arith}
use lib.Dec.{eqb, ltb}
use lib.ListN.{get_or, drop}
use lib.Seq.{get_or-drop, drop-drop}
use borrow.Author.Tests.{eq-eqb, ne_eqb, eqb-true, eqb-false, ltb-true, ltb-false}
use Rattle.base.specs.First.{first_from, first}

module _ (f : ℕ → ℕ → ℕ) (c : ℕ) (t : List ℕ) where
  -- what place i reads
  abbrev pub reads_at : ℕ → ℕ
  reads_at i = f i (get_or t i 0)

  -- the search over places i to n
  abbrev pub on_from : ℕ → ℕ → Option ℕ
  on_from n i = first_from f c (n - i) i (drop i t)

  head : (i : ℕ) → get_or (drop i t) 0 0 ≡ get_or t i 0
  head i = get_or-drop i t 0 0 ∙ ap (λ (k : ℕ). get_or t k 0) (add-zero i)

  hit_at : (n i : ℕ) → reads_at i ≡ c → first_from f c (suc n) i (drop i t) ≡ some i
  unfolding first_from
  hit_at n i e = rw (eq-eqb (f i (get_or (drop i t) 0 0)) c (ap (f i) (head i) ∙ e), first_from)

  miss_at : (n i : ℕ) → (reads_at i ≡ c → ⊥) → first_from f c (suc n) i (drop i t) ≡ first_from f c n (i + 1) (drop (i + 1) t)
  unfolding first_from
  miss_at n i e =
      rw (ne_eqb (f i (get_or (drop i t) 0 0)) c (λ q. e (ap (f i) (sym (head i)) ∙ q)), first_from)
      (rw (drop-drop 1 i t, ← add-one i))

  pub hit : (n i : ℕ) → i < n → reads_at i ≡ c → on_from n i ≡ some i
  hit n i h e = let q : n - i ≡ suc (n - (i + 1)) = omega arith in rw q (hit_at (n - (i + 1)) i e)

  pub miss : (n i : ℕ) → i < n → (reads_at i ≡ c → ⊥) → on_from n i ≡ on_from n (i + 1)
  miss n i h e = let q : n - i ≡ suc (n - (i + 1)) = omega arith in rw q (miss_at (n - (i + 1)) i e)

  pub done : (n i : ℕ) → n ≤ i → on_from n i ≡ none
  unfolding first_from
  done n i h = let q : n - i ≡ 0 = omega arith in rw q

  -- places at which c is not read are passed over
  pub skip : (n m : ℕ) → m ≤ n → ((k : ℕ) → k < m → reads_at k ≡ c → ⊥) → on_from n 0 ≡ on_from n m
  skip n zero h e = refl
  skip n (suc m) h e =
      skip n m (omega arith) (λ k q. e k (omega arith)) ∙ miss n m (omega arith) (e m (omega arith)) ∙ ap (on_from n) (add-one m)

  -- a character is looked for from place 0 on
  pub first_char : (n : ℕ) → (c ≡ 0 → ⊥) → first f n c t ≡ first_from f c n 0 t
  unfolding first
  first_char n h = rw (ne_eqb c 0 h, first)

-- 0 is found nowhere
pub first_zero : (f : ℕ → ℕ → ℕ) (n c : ℕ) (t : List ℕ) → c ≡ 0 → first f n c t ≡ none
unfolding first
first_zero f n c t h = rw (eq-eqb c 0 h, first)

-- place k of n is the first at which c is read
pub record First (f : ℕ → ℕ → ℕ) (n c : ℕ) (t : List ℕ) (k : ℕ) : Type 0 where
  pub character : c ≡ 0 → ⊥
  pub inside : k < n
  pub reads : f k (get_or t k 0) ≡ c
  pub earlier : (j : ℕ) → j < k → f j (get_or t j 0) ≡ c → ⊥

-- the same of the search from place i on, over a list that begins there
record FirstOf (f : ℕ → ℕ → ℕ) (n c i : ℕ) (t : List ℕ) (k : ℕ) : Type 0 where
  from : i ≤ k
  inside : k < i + n
  reads : f k (get_or t (k - i) 0) ≡ c
  earlier : (j : ℕ) → i ≤ j → j < k → f j (get_or t (j - i) 0) ≡ c → ⊥

later : (i j : ℕ) → i ≤ j → (i < j) ⊎ (i ≡ j)
later i j h = go (ltb i j) refl
  where
    go : (b : Bool) → ltb i j ≡ b → (i < j) ⊎ (i ≡ j)
    go true e = inl (ltb-true i j e)
    go false e = let q = ltb-false i j e in let z : i ≡ j = omega arith in inr z

module _ (f : ℕ → ℕ → ℕ) (c : ℕ) where
  -- an element past the first, in the list and in what follows its first
  next : (t : List ℕ) (i j : ℕ) → suc i ≤ j → f j (get_or (drop 1 t) (j - suc i) 0) ≡ f j (get_or t (j - i) 0)
  next t i j h =
      let q : 1 + (j - suc i) ≡ j - i = omega arith in
      ap (f j) (get_or-drop 1 t (j - suc i) 0 ∙ ap (λ (m : ℕ). get_or t m 0) q)

  begin : (t : List ℕ) (i : ℕ) → f i (get_or t (i - i) 0) ≡ f i (get_or t 0 0)
  begin t i = let q : i - i ≡ 0 = omega arith in ap (λ (m : ℕ). f i (get_or t m 0)) q

  from_some : (n i k : ℕ) (t : List ℕ) → first_from f c n i t ≡ some k → FirstOf f n c i t k
  unfolding first_from
  from_some zero i k t e = absurd (let z : ◌≡◌ {A = ℕ} 0 1 = cc in omega arith)
  from_some (suc n) i k t e = go (eqb (f i (get_or t 0 0)) c) refl (from_some n (suc i) k (drop 1 t))
    where
      go : (b : Bool) → eqb (f i (get_or t 0 0)) c ≡ b → (first_from f c n (suc i) (drop 1 t) ≡ some k → FirstOf f n c (suc i) (drop 1 t) k) → FirstOf f (suc n) c i t k
      go true q r =
          let z = rw (q, first_from) at e in
          let same : i ≡ k = cc in
          subst (λ (m : ℕ). FirstOf f (suc n) c i t m) same
          (record { from = omega arith; inside = omega arith; reads = begin t i ∙ eqb-true (f i (get_or t 0 0)) c q; earlier = λ j a b w. omega arith })
      go false q r =
          let s = r (rw (q, first_from) at e) in
          record {
            from = omega arith;
            inside = omega arith;
            reads = sym (next t i k s.from) ∙ s.reads;
            earlier = λ j a b w. ⊎_elim
                (λ (l : i < j). s.earlier j l b (next t i j l ∙ w))
                (λ (l : i ≡ j). eqb-false (f i (get_or t 0 0)) c q (sym (begin t i) ∙ subst (λ (m : ℕ). f m (get_or t (m - i) 0) ≡ c) (sym l) w))
                (later i j a);
          }

  from_none : (n i : ℕ) (t : List ℕ) → first_from f c n i t ≡ none → (j : ℕ) → i ≤ j → j < i + n → f j (get_or t (j - i) 0) ≡ c → ⊥
  unfolding first_from
  from_none zero i t e j a b r = omega arith
  from_none (suc n) i t e j a b r = go (eqb (f i (get_or t 0 0)) c) refl (from_none n (suc i) (drop 1 t))
    where
      go : (d : Bool) → eqb (f i (get_or t 0 0)) c ≡ d → (first_from f c n (suc i) (drop 1 t) ≡ none → (m : ℕ) → suc i ≤ m → m < suc i + n → f m (get_or (drop 1 t) (m - suc i) 0) ≡ c → ⊥) → ⊥
      go true q s = let z = rw (q, first_from) at e in let w : ◌≡◌ {A = ℕ} 0 1 = cc in omega arith
      go false q s =
          ⊎_elim
          (λ (l : i < j). s (rw (q, first_from) at e) j l (omega arith) (next t i j l ∙ r))
          (λ (l : i ≡ j). eqb-false (f i (get_or t 0 0)) c q (sym (begin t i) ∙ subst (λ (m : ℕ). f m (get_or t (m - i) 0) ≡ c) (sym l) r))
          (later i j a)

from_0 : (f : ℕ → ℕ → ℕ) (t : List ℕ) (j : ℕ) → f j (get_or t (j - 0) 0) ≡ f j (get_or t j 0)
from_0 f t j = let q : j - 0 ≡ j = omega arith in ap (λ (m : ℕ). f j (get_or t m 0)) q

-- what a search finds is the first place that reads as the character
pub first_some : (f : ℕ → ℕ → ℕ) (n c : ℕ) (t : List ℕ) (k : ℕ) → first f n c t ≡ some k → First f n c t k
unfolding first
first_some f n c t k e = go (eqb c 0) refl
  where
    go : (b : Bool) → eqb c 0 ≡ b → First f n c t k
    go true q = let z = rw (q, first) at e in absurd (let w : ◌≡◌ {A = ℕ} 0 1 = cc in omega arith)
    go false q =
        let s = from_some f c n 0 k t (rw (q, first) at e) in
        let h = s.inside in
        record {
          character = eqb-false c 0 q;
          inside = omega arith;
          reads = sym (from_0 f t k) ∙ s.reads;
          earlier = λ j b w. s.earlier j (omega arith) b (from_0 f t j ∙ w);
        }

-- and where it finds nothing no place does
pub first_none : (f : ℕ → ℕ → ℕ) (n c : ℕ) (t : List ℕ) → (c ≡ 0 → ⊥) → first f n c t ≡ none → (j : ℕ) → j < n → f j (get_or t j 0) ≡ c → ⊥
unfolding first
first_none f n c t h e j b r = from_none f c n 0 t (rw (ne_eqb c 0 h, first) at e) j (omega arith) (omega arith) (from_0 f t j ∙ r)
