-- A step that plain steps leave, by its byte.
use Prim.Native.Nat.{ℕ}
use mathlib.Core.Path.{◌≡◌}
use mathlib.Core.Bool.{true, false}
use mathlib.Core.List.{List}
use mathlib.Core.Logic.{◌⊎◌, inl, inr}
use Rattle.reading.specs.State.{Given, State}
use Rattle.reading.specs.Characters.{is_gl, is_gr, graphic, single_shift}
use Rattle.reading.specs.Macros.{Run, macro_cmd}
use Rattle.reading.specs.Steps.{step, control0, control1}
use Rattle.decode_state.specs.declared.Core.{Core}
use Rattle.decode_steps.specs.Promises.{CharOf, ShiftOf}

module _ (g : Given) (left : ℕ) (R : Run) (x : ℕ) (rest : List ℕ) (place at : ℕ) (s : State) where
  -- a character of the code element e
  pub step_char : (e : ℕ) (c : Core) → s.gl ≡ c.gl → s.gr ≡ c.gr → CharOf x e c → step g left R x rest place at s ≡ graphic g left R e x rest at s
  unfolding step
  step_char e c p q h = go h.through
    where
      go : ((is_gl x ≡ true) × (e ≡ c.gl)) ⊎ ((is_gl x ≡ false) × (is_gr x ≡ true) × (e ≡ c.gr)) → step g left R x rest place at s ≡ graphic g left R e x rest at s
      go (inl k) = rw (k.0, p, k.1)
      go (inr k) = rw (k.0, k.1, q, k.2)

  -- MACRO
  pub step_macro : x ≡ 0x95 → step g left R x rest place at s ≡ macro_cmd g left R rest place at s
  unfolding step control1 is_gl is_gr
  step_macro h = rw h

  -- a single shift
  pub step_shift : (e : ℕ) → ShiftOf x e → step g left R x rest place at s ≡ single_shift g left R e rest at s
  unfolding step control0 is_gl is_gr
  step_shift e (inl h) = rw (h.0, h.1)
  step_shift e (inr h) = rw (h.0, h.1)
