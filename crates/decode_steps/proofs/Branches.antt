-- A step by its byte, where no macro is concerned. Assumes nothing.
use Prim.Native.Nat.{ℕ, zero, suc, ◌-◌}
use mathlib.Core.Path.{◌≡◌, refl, ap, ◌∙◌}
use mathlib.Core.Bool.{Bool, true, false, cond, ◌||◌}
use mathlib.Core.List.{List}
use native.Mathlib.Omega.{arith}
use lib.ListN.{get_or}
use Rattle.decode_output.specs.Output.{emit, newline}
use Rattle.reading.specs.State.{Given, State, took, writes, is_narrow}
use Rattle.reading.specs.Characters.{is_gl, is_gr, is_graphic, graphic, graphic_of}
use Rattle.reading.specs.Macros.{Run}
use Rattle.reading.specs.Steps.{step, control0, space, offset}
use Rattle.decode_state.specs.declared.Core.{Core}
use Rattle.decode_state.specs.Promises.{whole, Holds}

-- ---- a character, in either half

module _ (x : ℕ) where
  pub graphic_left : is_gl x ≡ true → is_graphic x ≡ true
  unfolding is_graphic
  graphic_left p = rw p

  pub graphic_right : is_gl x ≡ false → is_gr x ≡ true → is_graphic x ≡ true
  unfolding is_graphic
  graphic_right p q = rw (p, q)

-- ---- a state that the struct holds

module _ {g : Given} {starts lens t₀ i₀ : List ℕ} {s : State} {c : Core} {t i : List ℕ} (h : Holds g t₀ i₀ s (whole c starts lens) t i) where
  -- the set in the code element that GL holds
  pub set_left : get_or c.sets c.gl 0 ≡ get_or s.sets s.gl 0
  set_left = λ j. get_or (h.state j).core.sets (h.state j).core.gl 0

  pub set_right : get_or c.sets c.gr 0 ≡ get_or s.sets s.gr 0
  set_right = λ j. get_or (h.state j).core.sets (h.state j).core.gr 0

  -- SP
  pub space_as : (x : ℕ) → x ≡ cond (c.annex || c.narrow) 0x20 0x3000 → took 1 (writes (emit x) s) ≡ took 1 (space g s)
  unfolding space is_narrow
  space_as x e =
      let q : (c.annex || c.narrow) ≡ (g.annex_e || s.narrow) = λ j. (h.state j).core.annex || (h.state j).core.narrow in
      ap (λ (n : ℕ). took 1 (writes (emit n) s)) (e ∙ ap (λ (u : Bool). cond u 0x20 0x3000) q)

module _ (g : Given) (left : ℕ) (R : Run) (x : ℕ) (rest : List ℕ) (place at : ℕ) (s : State) where
  -- ---- a step

  pub step_left : (set : ℕ) → set ≡ get_or s.sets s.gl 0 → is_gl x ≡ true → graphic_of g left R set x rest at s ≡ step g left R x rest place at s
  unfolding step graphic
  step_left set e p = rw (e, p)

  pub step_right : (set : ℕ) → set ≡ get_or s.sets s.gr 0 → is_gl x ≡ false → is_gr x ≡ true → graphic_of g left R set x rest at s ≡ step g left R x rest place at s
  unfolding step graphic
  step_right set e p q = rw (e, p, q)

  pub step_space : x ≡ 0x20 → took 1 (space g s) ≡ step g left R x rest place at s
  unfolding step control0 is_gl is_gr
  step_space e = rw e

  pub step_newline : x ≡ 0x0D → took 1 (writes newline s) ≡ step g left R x rest place at s
  unfolding step control0 is_gl is_gr
  step_newline e = rw e

-- ---- the offset to report

pub offset_own : (origin i : ℕ) → origin ≡ 0 → i ≡ offset origin i
unfolding offset
offset_own origin i e = rw e

pub offset_caller : (origin i : ℕ) → (origin ≡ 0 → ⊥) → origin - 1 ≡ offset origin i
unfolding offset
offset_caller zero i h = absurd (h refl)
offset_caller (suc at) i h = let e : suc at - 1 ≡ at = omega arith in e
