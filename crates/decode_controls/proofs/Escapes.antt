-- What an escape's bytes mean, by the tests of the code. Assumes nothing.
use Prim.Native.Nat.{ℕ, ◌+◌, ◌-◌, ◌≤◌, ◌<◌}
use mathlib.Core.Path.{◌≡◌, refl, sym, ap, ◌∙◌}
use mathlib.Core.Bool.{Bool, true, false, cond, ◌&&◌}
use mathlib.Core.Logic.{◌⊎◌, inl, inr}
use mathlib.Core.List.{List, [], ◌∷◌}
use mathlib.Core.Option.{Option, none, some}
use native.Mathlib.Omega.{arith}
use borrow.Author.Tests.{eq-eqb, ne_eqb, le-leb, lt-leb, leb-true, eqb-true}
use lib.Dec.{eqb, leb}
use lib.ListN.{length, get_or}
use Rattle.sets.specs.Sets.{Compared, Designation, from_designation, to_element, selects, read_designation}
use Rattle.reading.specs.Controls.{locking_shift, designated, applied, applied_or}
use Rattle.decode_controls.specs.declared.Effect.{Effect}
use Rattle.decode_controls.specs.declared.Effect.TheVariants.{Gl, Gr, Designates, UnknownEscape}
use Rattle.decode_controls.specs.Controls.{step_of, Means}

-- ---- locking shifts

-- what a comparison of ESC f with ESC x says of f
pub not_final : {r : Bool} {l : List ℕ} (f x : ℕ) → l ≡ 0x1B ∷ f ∷ [] → Compared r l (0x1B ∷ x ∷ []) → r ≡ false → f ≡ x → ⊥
not_final f x e c p q = c.unequal p (e ∙ ap (λ (y : ℕ). 0x1B ∷ y ∷ []) q)

pub is_final_lem : {r : Bool} {l : List ℕ} (f x : ℕ) → l ≡ 0x1B ∷ f ∷ [] → Compared r l (0x1B ∷ x ∷ []) → r ≡ true → f ≡ x
is_final_lem f x e c p = let q : 0x1B ∷ f ∷ [] ≡ 0x1B ∷ x ∷ [] = sym e ∙ c.equal p in cc

module _ (f : ℕ) where
  pub shift_ls2 : f ≡ 0x6E → Means (locking_shift f) (Gl 2)
  unfolding locking_shift applied_or step_of
  shift_ls2 e = record { says = λ n place at s. rw e; bounded = record { element = omega arith; count = omega arith } }

  pub shift_ls3 : f ≡ 0x6F → Means (locking_shift f) (Gl 3)
  unfolding locking_shift applied_or step_of
  shift_ls3 e = record { says = λ n place at s. rw e; bounded = record { element = omega arith; count = omega arith } }

  pub shift_ls1r : f ≡ 0x7E → Means (locking_shift f) (Gr 1)
  unfolding locking_shift applied_or step_of
  shift_ls1r e = record { says = λ n place at s. rw e; bounded = record { element = omega arith; count = omega arith } }

  pub shift_ls2r : f ≡ 0x7D → Means (locking_shift f) (Gr 2)
  unfolding locking_shift applied_or step_of
  shift_ls2r e = record { says = λ n place at s. rw e; bounded = record { element = omega arith; count = omega arith } }

  pub shift_ls3r : f ≡ 0x7C → Means (locking_shift f) (Gr 3)
  unfolding locking_shift applied_or step_of
  shift_ls3r e = record { says = λ n place at s. rw e; bounded = record { element = omega arith; count = omega arith } }

  pub shift_none : (f ≡ 0x6E → ⊥) → (f ≡ 0x6F → ⊥) → (f ≡ 0x7E → ⊥) → (f ≡ 0x7D → ⊥) → (f ≡ 0x7C → ⊥) → Means (locking_shift f) UnknownEscape
  unfolding locking_shift applied_or step_of
  shift_none a b c d e = record {
    says = λ n place at s. rw (ne_eqb f 0x6E a, ne_eqb f 0x6F b, ne_eqb f 0x7E c, ne_eqb f 0x7D d, ne_eqb f 0x7C e);
    bounded = record { element = omega arith; count = omega arith };
  }

-- ---- designations

-- the set that is found, and none
pub means_set : (e n : ℕ) (o : Option ℕ) → e < 4 → o ≡ some n → Means (designated (to_element e o)) (Designates e n)
unfolding designated to_element applied_or step_of
means_set e n o h q = record { says = λ u place at s. rw q; bounded = record { element = h; count = omega arith } }

pub means_none : (e : ℕ) (o : Option ℕ) → o ≡ none → Means (designated (to_element e o)) UnknownEscape
unfolding designated to_element applied_or step_of
means_none e o q = record { says = λ n place at s. rw q; bounded = record { element = omega arith; count = omega arith } }

-- the bytes select what a designation says
means_as : {e : Effect} {o : Option Designation} (a b : ℕ) (r : List ℕ) → read_designation (a ∷ b ∷ r) ≡ o → Means (designated o) e → Means (applied (a ∷ b ∷ r)) e
unfolding applied
means_as a b r q m = record { says = λ n place at s. ap (λ (o : Option Designation). applied_or (designated o s) n place at s) q ∙ m.says n place at s; bounded = m.bounded }

nothing : Means (designated none) UnknownEscape
unfolding designated applied_or step_of
nothing = record { says = λ n place at s. refl; bounded = record { element = omega arith; count = omega arith } }

-- a byte from 02/8 + low to 02/11
selects_yes : (low b : ℕ) → 0x28 + low ≤ b → b ≤ 0x2B → selects low b ≡ true
selects_yes low b p q = rw (le-leb (0x28 + low) b p, le-leb b 0x2B q)

selects_no : (low b : ℕ) → b < 0x28 + low ⊎ 0x2B < b → selects low b ≡ false
selects_no low b (inl p) = rw (lt-leb (0x28 + low) b p)
selects_no low b (inr p) = go (leb (0x28 + low) b)
  where
    go : (x : Bool) → (x && leb b 0x2B) ≡ false
    go true = lt-leb b 0x2B p
    go false = refl

module _ {e : Effect} (a f : ℕ) where
  -- one intermediate
  pub one_set : 0x28 ≤ a → a ≤ 0x2B → Means (designated (to_element (a - 0x28) (from_designation false false f))) e → Means (applied (a ∷ f ∷ [])) e
  unfolding read_designation
  one_set p q m = means_as a f [] (rw (selects_yes 0 a p q)) m

  pub one_g0 : a ≡ 0x24 → Means (designated (to_element 0 (from_designation true false f))) e → Means (applied (a ∷ f ∷ [])) e
  unfolding read_designation
  one_g0 p m = means_as a f [] (rw (selects_no 0 a (inl (omega arith)), eq-eqb a 0x24 p)) m

module _ (a f : ℕ) where
  pub one_none : (a ≡ 0x24 → ⊥) → a < 0x28 ⊎ 0x2B < a → Means (applied (a ∷ f ∷ [])) UnknownEscape
  unfolding read_designation
  one_none p q = means_as a f [] (rw (selects_no 0 a q, ne_eqb a 0x24 p)) nothing

module _ {e : Effect} (a g f : ℕ) where
  -- two intermediates
  pub two_drcs : 0x28 ≤ a → a ≤ 0x2B → g ≡ 0x20 → Means (designated (to_element (a - 0x28) (from_designation false true f))) e → Means (applied (a ∷ g ∷ f ∷ [])) e
  unfolding read_designation
  two_drcs p q r m = means_as a g (f ∷ []) (rw (selects_yes 0 a p q, eq-eqb g 0x20 r)) m

  pub two_set : a ≡ 0x24 → 0x29 ≤ g → g ≤ 0x2B → Means (designated (to_element (g - 0x28) (from_designation true false f))) e → Means (applied (a ∷ g ∷ f ∷ [])) e
  unfolding read_designation
  two_set p q r m = means_as a g (f ∷ []) (rw (selects_no 0 a (inl (omega arith)), eq-eqb a 0x24 p, selects_yes 1 g q r)) m

and_left : (u v : Bool) → (u && v) ≡ true → u ≡ true
and_left true v e = refl
and_left false v e = e

and_right : (u v : Bool) → (u && v) ≡ true → v ≡ true
and_right true v e = e
and_right false v e = cc

-- a choice whose test never passes
never : {X : Type 0} (u : Bool) (x y : X) → (u ≡ true → ⊥) → cond u x y ≡ y
never true x y h = absurd (h refl)
never false x y h = refl

selects_low : (low b : ℕ) → selects low b ≡ true → (0x28 + low ≤ b) × (b ≤ 0x2B)
selects_low low b e = (leb-true _ _ (and_left _ _ e), leb-true _ _ (and_right _ _ e))

-- neither form of two intermediates
pub two_none : (a g f : ℕ) → (a ≡ 0x24 → 0x29 ≤ g → g ≤ 0x2B → ⊥) → (0x28 ≤ a → a ≤ 0x2B → g ≡ 0x20 → ⊥) → Means (applied (a ∷ g ∷ f ∷ [])) UnknownEscape
unfolding read_designation
two_none a g f p q =
    means_as a g (f ∷ [])
    (never (selects 0 a && eqb g 0x20) _ _
    (λ e. let s = selects_low 0 a (and_left _ _ e) in q s.0 s.1 (eqb-true _ _ (and_right _ _ e)))
    ∙ never (eqb a 0x24 && selects 1 g) _ _ (λ e. let s = selects_low 1 g (and_right _ _ e) in p (eqb-true _ _ (and_left _ _ e)) s.0 s.1))
    nothing

-- three intermediates
module _ (a g d f : ℕ) where
  pub three_drcs : {e : Effect} → a ≡ 0x24 → d ≡ 0x20 → 0x28 ≤ g → g ≤ 0x2B → Means (designated (to_element (g - 0x28) (from_designation true true f))) e →
      Means (applied (a ∷ g ∷ d ∷ f ∷ [])) e
  unfolding read_designation
  three_drcs p q r s m = means_as a g (d ∷ f ∷ []) (rw (eq-eqb a 0x24 p, selects_yes 0 g r s, eq-eqb d 0x20 q)) m

  pub three_none : (a ≡ 0x24 → 0x28 ≤ g → g ≤ 0x2B → d ≡ 0x20 → ⊥) → Means (applied (a ∷ g ∷ d ∷ f ∷ [])) UnknownEscape
  unfolding read_designation
  three_none p =
      means_as a g (d ∷ f ∷ [])
      (never (eqb a 0x24 && selects 0 g && eqb d 0x20) _ _
      (λ e.
      let ag = and_left _ _ e in
      let s = selects_low 0 g (and_right _ _ ag) in
      p (eqb-true _ _ (and_left _ _ ag)) s.0 s.1 (eqb-true _ _ (and_right _ _ e))))
      nothing

-- no byte, one, and five and more
pub means_shift : (l : List ℕ) {e : Effect} → 1 ≤ length l → length l < 2 → Means (locking_shift (get_or l 0 0)) e → Means (applied l) e
unfolding applied
means_shift [] h k m = absurd (omega arith)
means_shift (f ∷ []) h k m = record { says = m.says; bounded = m.bounded }
means_shift (a ∷ b ∷ r) h k m = absurd (omega arith)

pub few_none : (l : List ℕ) → length l < 1 → Means (applied l) UnknownEscape
unfolding applied applied_or step_of
few_none [] h = record { says = λ n place at s. refl; bounded = record { element = omega arith; count = omega arith } }
few_none (a ∷ r) h = absurd (omega arith)

pub many_none : (l : List ℕ) → 5 ≤ length l → Means (applied l) UnknownEscape
unfolding read_designation
many_none [] h = absurd (omega arith)
many_none (a ∷ []) h = absurd (omega arith)
many_none (a ∷ b ∷ []) h = absurd (omega arith)
many_none (a ∷ b ∷ c ∷ []) h = absurd (omega arith)
many_none (a ∷ b ∷ c ∷ d ∷ []) h = absurd (omega arith)
many_none (a ∷ b ∷ c ∷ d ∷ e ∷ r) h = means_as a b (c ∷ d ∷ e ∷ r) refl nothing
