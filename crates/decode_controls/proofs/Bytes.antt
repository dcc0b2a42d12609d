-- A step by its first byte. Assumes nothing.
use Prim.Native.Nat.{ℕ, ◌≤◌, ◌<◌}
use mathlib.Core.Path.{◌≡◌, ap}
use mathlib.Core.Bool.{Bool, true, false, cond}
use mathlib.Core.Logic.{◌⊎◌, inl, inr}
use mathlib.Core.List.{List}
use native.Mathlib.Omega.{arith}
use lib.Dec.{ltb}
use borrow.Author.Tests.{ne_eqb, le-leb, lt-leb}
use Rattle.reading.specs.State.{Given, State}
use Rattle.reading.specs.Characters.{is_gl, is_gr}
use Rattle.reading.specs.Controls.{colour, fixed}
use Rattle.reading.specs.Macros.{Run}
use Rattle.reading.specs.Steps.{step, control0, control1}

-- ---- the halves of the code table

module _ (x : ℕ) where
  pub gl_in : 0x21 ≤ x → x ≤ 0x7E → is_gl x ≡ true
  unfolding is_gl
  gl_in p q = rw (le-leb 0x21 x p, le-leb x 0x7E q)

  pub gl_below : x < 0x21 → is_gl x ≡ false
  unfolding is_gl
  gl_below p = rw (lt-leb 0x21 x p)

  pub gl_above : 0x7E < x → is_gl x ≡ false
  unfolding is_gl
  gl_above p = let q : 0x21 ≤ x = omega arith in rw (le-leb 0x21 x q, lt-leb x 0x7E p)

  pub gr_in : 0xA1 ≤ x → x ≤ 0xFE → is_gr x ≡ true
  unfolding is_gr
  gr_in p q = rw (le-leb 0xA1 x p, le-leb x 0xFE q)

  pub gr_below : x < 0xA1 → is_gr x ≡ false
  unfolding is_gr
  gr_below p = rw (lt-leb 0xA1 x p)

  pub gr_above : 0xFE < x → is_gr x ≡ false
  unfolding is_gr
  gr_above p = let q : 0xA1 ≤ x = omega arith in rw (le-leb 0xA1 x q, lt-leb x 0xFE p)

-- a code below 80 that has no step of its own
pub record Plain0 (x : ℕ) : Type 0 where
  pub space : x ≡ 0x20 → ⊥
  pub ls0 : x ≡ 0x0F → ⊥
  pub ls1 : x ≡ 0x0E → ⊥
  pub ss2 : x ≡ 0x19 → ⊥
  pub ss3 : x ≡ 0x1D → ⊥
  pub esc : x ≡ 0x1B → ⊥
  pub newline : x ≡ 0x0D → ⊥

-- one from 80 on
pub record Plain1 (x : ℕ) : Type 0 where
  pub ssz : x ≡ 0x88 → ⊥
  pub msz : x ≡ 0x89 → ⊥
  pub nsz : x ≡ 0x8A → ⊥
  pub szx : x ≡ 0x8B → ⊥
  pub col : x ≡ 0x90 → ⊥
  pub cdc : x ≡ 0x92 → ⊥
  pub macro : x ≡ 0x95 → ⊥
  pub rpc : x ≡ 0x98 → ⊥
  pub csi : x ≡ 0x9B → ⊥
  pub time : x ≡ 0x9D → ⊥

module _ (g : Given) (left : ℕ) (R : Run) (x : ℕ) (rest : List ℕ) (place at : ℕ) (s : State) where
  control0_fixed : Plain0 x → control0 g left R x rest place at s ≡ fixed x rest at s
  unfolding control0
  control0_fixed p =
      rw (ne_eqb x 0x20 p.space, ne_eqb x 0x0F p.ls0, ne_eqb x 0x0E p.ls1, ne_eqb x 0x19 p.ss2, ne_eqb x 0x1D p.ss3, ne_eqb x 0x1B p.esc, ne_eqb x 0x0D p.newline)

  control1_fixed : Plain1 x → control1 g left R x rest place at s ≡ fixed x rest at s
  unfolding control1
  control1_fixed p =
      rw (
        ne_eqb x 0x88 p.ssz,
        ne_eqb x 0x89 p.msz,
        ne_eqb x 0x8A p.nsz,
        ne_eqb x 0x8B p.szx,
        ne_eqb x 0x98 p.rpc,
        ne_eqb x 0x90 p.col,
        ne_eqb x 0x92 p.cdc,
        ne_eqb x 0x9D p.time,
        ne_eqb x 0x9B p.csi,
        ne_eqb x 0x95 p.macro,
      )

  -- a code in neither half that has no step of its own
  pub step_fixed : is_gl x ≡ false → is_gr x ≡ false → Plain0 x → Plain1 x → step g left R x rest place at s ≡ fixed x rest at s
  unfolding step
  step_fixed l r p q = rw (l, r) (go (ltb x 0x80))
    where
      go : (u : Bool) → cond u (control0 g left R x rest place at s) (control1 g left R x rest place at s) ≡ fixed x rest at s
      go true = control0_fixed p
      go false = control1_fixed q

  pub step_colour : (x ≡ 0x90) ⊎ (x ≡ 0x92) → step g left R x rest place at s ≡ colour rest at s
  unfolding step control1 is_gl is_gr
  step_colour (inl e) = ap (λ (y : ℕ). step g left R y rest place at s) e
  step_colour (inr e) = ap (λ (y : ℕ). step g left R y rest place at s) e
