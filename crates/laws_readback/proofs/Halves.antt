-- The bytes of a code in the half of GL and in that of GR. Assumes nothing.
use Prim.Native.Nat.{ℕ, ◌+◌, ◌/◌, ◌%◌, ◌≤◌}
use mathlib.Core.Path.{◌≡◌, ap, ◌∙◌}
use mathlib.Core.Bool.{Bool, true, false, cond, ◌&&◌}
use mathlib.Core.List.{List, ◌∷◌}
use native.Mathlib.Nat.{add-zero}
use native.Mathlib.Omega.{arith}
use borrow.Author.Tests.{eq-eqb, le-leb, lt-leb}
use lib.Dec.{eqb}
use Rattle.coding.specs.Admissible.{Half, low, high}
use Rattle.reading.specs.State as reading
use Rattle.reading.specs.Characters.{is_gl, is_gr, is_graphic, char2, graphic2}

-- a byte of a code, in GL form
pub record Byte (b : ℕ) : Type 0 where
  pub from : 0x21 ≤ b
  pub to : b ≤ 0x7E

pub is_left : (b : ℕ) → Byte b → is_gl b ≡ true
unfolding is_gl
is_left b p = simp (le-leb 0x21 b p.from, le-leb b 0x7E p.to)

pub not_left : (b : ℕ) → Byte b → is_gl (b + 128) ≡ false
unfolding is_gl
not_left b p = simp (le-leb 0x21 (b + 128) (omega (arith, p.from)), lt-leb (b + 128) 0x7E (omega arith))

pub is_right : (b : ℕ) → Byte b → is_gr (b + 128) ≡ true
unfolding is_gr
is_right b p = simp (le-leb 0xA1 (b + 128) (omega (arith, p.from)), le-leb (b + 128) 0xFE (omega (arith, p.to)))

-- the same in either half
pub record InHalf (b h : ℕ) : Type 0 where
  pub graphic : is_graphic (b + h) ≡ true
  pub half : (b + h) / 128 ≡ h / 128
  pub code : (b + h) % 128 ≡ b

pub in_half : (b h : ℕ) → Byte b → Half h → InHalf b h
unfolding is_graphic
in_half b h p low = record { graphic = rw (add-zero b, is_left b p); half = omega (arith, p.from, p.to); code = omega (arith, p.from, p.to) }
in_half b h p high = record { graphic = rw (not_left b p, is_right b p); half = omega (arith, p.from, p.to); code = omega (arith, p.from, p.to) }

-- two bytes in one half are one character
pub whole : (g : reading.Given) (number x y a b : ℕ) (rest : List ℕ) (at : ℕ) (s : reading.State) → is_graphic y ≡ true → x / 128 ≡ y / 128 → x % 128 ≡ a → y % 128 ≡ b
    → graphic2 g number x (y ∷ rest) at s ≡ reading.took 2 (char2 g number a b at s)
unfolding graphic2
whole g number x y a b rest at s e h p q =
    let u : reading.Step = reading.took 2 (char2 g number (x % 128) (y % 128) at s) in
    ap (λ (t : Bool). cond (t && eqb (x / 128) (y / 128)) u (reading.truncated 1 at s)) e
    ∙ ap (λ (t : Bool). cond t u (reading.truncated 1 at s)) (eq-eqb (x / 128) (y / 128) h)
    ∙ ap (λ (m : ℕ). reading.took 2 (char2 g number m (y % 128) at s)) p
    ∙ ap (λ (m : ℕ). reading.took 2 (char2 g number a m at s)) q
