-- What holds of a code that Tables 7-15 and 7-16 leave out, and of the names.
-- Assumes nothing.
use mathlib.Core.Path.{◌≡◌, refl}
use mathlib.Core.Bool.{Bool, true, false, cond, ◌||◌, true≢false}
use mathlib.Core.List.{List, [], ◌∷◌}
use mathlib.Core.Option.{none}
use Prim.Native.Nat.{ℕ}
use lib.Dec.{eqb}
use Rattle.control.specs.Controls.{Control, controls, listed, lookup, count_of, bytes, text_of, name_of}

-- The answers for a code without an entry.
pub record Without (c : ℕ) : Type 0 where
  pub no_params : count_of c ≡ none
  pub no_name : name_of c ≡ []

no_lookup : {A : Type 0} (f : Control → A) (d : A) (xs : List Control) (c : ℕ) → listed xs c ≡ false → lookup f d xs c ≡ d
unfolding listed lookup
no_lookup f d [] c h = refl
no_lookup {A} f d (x ∷ xs) c h = go (eqb c x.number) h (no_lookup f d xs c)
  where
    go : (b : Bool) → b || listed xs c ≡ false → (listed xs c ≡ false → lookup f d xs c ≡ d) → cond b (f x) (lookup f d xs c) ≡ d
    go true e r = absurd (true≢false e)
    go false e r = r e

-- a code without an entry answers that it has no name and no fixed number of parameter bytes
pub without : (c : ℕ) → listed controls c ≡ false → Without c
unfolding name_of count_of
without c h =
    record {
      no_params = no_lookup (λ x. x.params) none controls c h;
      no_name = no_lookup (λ x. bytes x.name) [] controls c h;
    }

lookup_ap : {A B : Type 0} (g : A → B) (f : Control → A) (d : A) (xs : List Control) (c : ℕ) → lookup (λ x. g (f x)) (g d) xs c ≡ g (lookup f d xs c)
unfolding lookup
lookup_ap g f d [] c = refl
lookup_ap {A} {B} g f d (x ∷ xs) c = go (eqb c x.number) (lookup_ap g f d xs c)
  where
    go : (b : Bool) → lookup (λ x. g (f x)) (g d) xs c ≡ g (lookup f d xs c) → cond b (g (f x)) (lookup (λ x. g (f x)) (g d) xs c) ≡ g (cond b (f x) (lookup f d xs c))
    go true r = refl
    go false r = r

-- the bytes of a code's name are those of its text
pub named : (c : ℕ) → name_of c ≡ bytes (text_of c)
unfolding name_of text_of
named c = lookup_ap bytes (λ x. x.name) "" controls c

-- A0 and FF are such codes
pub a0 : Without 0xA0
unfolding listed
a0 = without 0xA0 refl

pub ff : Without 0xFF
unfolding listed
ff = without 0xFF refl
