-- Where plain steps pass.
use Prim.Native.Nat.{ℕ, ◌+◌, ◌<◌}
use mathlib.Core.Path.{◌≡◌, refl, sym, ap, ◌∙◌}
use mathlib.Core.Bool.{Bool, true, false}
use mathlib.Core.List.{List}
use mathlib.Core.Logic.{◌⊎◌, inl, inr}
use native.Mathlib.Omega.{arith}
use borrow.Author.Tests.{leb-true, leb-false}
use lib.Dec.{leb}
use lib.ListN.{length, get_or}
use Rattle.reading.specs.Characters.{is_gl, is_gr, is_graphic}
use Rattle.decode_state.specs.declared.Core.{Core}
use Rattle.decode_steps.specs.Promises.{CharOf, ShiftOf, Passes}
use Rattle.decode_controls.proofs.Bytes.{gl_above, gr_below}

pub never : {u : Bool} → u ≡ true → u ≡ false → ⊥
never p q = let z : ◌≡◌ {A = ℕ} 0 1 = cc in omega arith

shift_left : (x e : ℕ) → ShiftOf x e → is_gl x ≡ false
unfolding is_gl
shift_left x e (inl h) = rw h.0
shift_left x e (inr h) = rw h.0

shift_right : (x e : ℕ) → ShiftOf x e → is_gr x ≡ false
unfolding is_gr
shift_right x e (inl h) = rw h.0
shift_right x e (inr h) = rw h.0

shift_same : (x e e' : ℕ) → ShiftOf x e → ShiftOf x e' → e' ≡ e
shift_same x e e' (inl h) (inl k) = k.1 ∙ sym h.1
shift_same x e e' (inl h) (inr k) = absurd (omega (arith, h.0, k.0))
shift_same x e e' (inr h) (inl k) = absurd (omega (arith, h.0, k.0))
shift_same x e e' (inr h) (inr k) = k.1 ∙ sym h.1

shift_command : (x e : ℕ) → ShiftOf x e → x ≡ 0x95 → ⊥
shift_command x e (inl h) q = omega (arith, h.0)
shift_command x e (inr h) q = omega (arith, h.0)

left_right : (x : ℕ) → is_gl x ≡ true → is_gr x ≡ false
left_right x p = go (leb x 0x7E) refl
  where
    go : (u : Bool) → leb x 0x7E ≡ u → is_gr x ≡ false
    go true e = gr_below x (omega (arith, leb-true x 0x7E e))
    go false e = absurd (never p (gl_above x (leb-false x 0x7E e)))

left_command : (x : ℕ) → is_gl x ≡ true → x ≡ 0x95 → ⊥
unfolding is_gl
left_command x p q = never p (rw q)

right_command : (x : ℕ) → is_gr x ≡ true → x ≡ 0x95 → ⊥
unfolding is_gr
right_command x p q = never p (rw q)

module _ (b : List ℕ) (i : ℕ) (c : Core) where
  -- no character, no shift, not MACRO
  pub passes_other : is_gl (get_or b i 0) ≡ false → is_gr (get_or b i 0) ≡ false → (get_or b i 0 ≡ 0x19 → ⊥) → (get_or b i 0 ≡ 0x1D → ⊥) → (get_or b i 0 ≡ 0x95 → ⊥) → Passes b i c
  passes_other p q h2 h3 h =
      record {
        command = h;
        left = λ k _. never k p;
        right = λ k _. never k q;
        shift = shift;
      }
    where
      shift : (e : ℕ) → ShiftOf (get_or b i 0) e → get_or c.sets e 0 ≡ 15 → i + 1 < length b → is_graphic (get_or b (i + 1) 0) ≡ true → ⊥
      shift e (inl k) s l g = h2 k.0
      shift e (inr k) s l g = h3 k.0

  -- a single shift, with no character of the macro set behind it
  pub passes_shift : (e : ℕ) → ShiftOf (get_or b i 0) e → (get_or c.sets e 0 ≡ 15 → i + 1 < length b → is_graphic (get_or b (i + 1) 0) ≡ true → ⊥) → Passes b i c
  passes_shift e h k =
      record {
        command = shift_command (get_or b i 0) e h;
        left = λ p _. never p (shift_left (get_or b i 0) e h);
        right = λ p _. never p (shift_right (get_or b i 0) e h);
        shift = λ e' h' s. k (ap (λ (n : ℕ). get_or c.sets n 0) (sym (shift_same (get_or b i 0) e e' h h')) ∙ s);
      }

  -- a character of a set other than the macro set
  pub passes_char : (e : ℕ) → CharOf (get_or b i 0) e c → (get_or c.sets e 0 ≡ 15 → ⊥) → Passes b i c
  passes_char e h k = go h.through
    where
      x : ℕ
      x = get_or b i 0

      go : ((is_gl x ≡ true) × (e ≡ c.gl)) ⊎ ((is_gl x ≡ false) × (is_gr x ≡ true) × (e ≡ c.gr)) → Passes b i c
      go (inl q) =
          record {
            command = left_command x q.0;
            left = λ p s. k (ap (λ (n : ℕ). get_or c.sets n 0) q.1 ∙ s);
            right = λ p s. never p (left_right x q.0);
            shift = λ e' h' s l g. never q.0 (shift_left x e' h');
          }
      go (inr q) =
          record {
            command = right_command x q.1;
            left = λ p s. never p q.0;
            right = λ p s. k (ap (λ (n : ℕ). get_or c.sets n 0) q.2 ∙ s);
            shift = λ e' h' s l g. never q.1 (shift_right x e' h');
          }
