-- No more than 48,384 states are proper: their numbers without gaps. Assumes nothing.
use mathlib.Core.Path.{◌≡◌, ◌∙◌}
use Prim.Native.Nat.{ℕ, ◌+◌, ◌*◌, ◌/◌, ◌%◌, ◌<◌}
use native.Mathlib.Omega.{arith}
use Rattle.encode_states.specs.Packed.{Proper}

-- the size, GL and GR; G3 of seven; G2 and G1 of six; G0
abbrev join : ℕ → ℕ → ℕ → ℕ → ℕ → ℕ
join b g3 g2 g1 g0 = b + 32 * (g3 + 7 * (g2 + 6 * (g1 + 6 * g0)))

pub dense : ℕ → ℕ
dense a = join (a % 32) (a / 32 % 8) (a / 256 % 8) (a / 2048 % 8) (a / 16384)

-- the state again
pub spread : ℕ → ℕ
spread k = k % 32 + (k / 32 % 7 * 32 + (k / 224 % 6 * 256 + (k / 1344 % 6 * 2048 + k / 8064 * 16384)))

module _ (b g3 g2 g1 g0 : ℕ) (hb : b < 32) (h3 : g3 < 7) (h2 : g2 < 6) (h1 : g1 < 6) where
  low : join b g3 g2 g1 g0 % 32 ≡ b
  low = omega arith

  third : join b g3 g2 g1 g0 / 32 % 7 ≡ g3
  third = omega arith

  second : join b g3 g2 g1 g0 / 224 % 6 ≡ g2
  second = omega arith

  first : join b g3 g2 g1 g0 / 1344 % 6 ≡ g1
  first = omega arith

  zeroth : join b g3 g2 g1 g0 / 8064 ≡ g0
  zeroth = omega arith

  spread_join : spread (join b g3 g2 g1 g0) ≡ b + (g3 * 32 + (g2 * 256 + (g1 * 2048 + g0 * 16384)))
  unfolding spread
  spread_join = λ i. low i + (third i * 32 + (second i * 256 + (first i * 2048 + zeroth i * 16384)))

-- a digit at a time
sum : (a b g3 g2 g1 g0 r3 r2 r1 : ℕ) → a ≡ b + 32 * r3 → r3 ≡ g3 + 8 * r2 → r2 ≡ g2 + 8 * r1 → r1 ≡ g1 + 8 * g0 → b + (g3 * 32 + (g2 * 256 + (g1 * 2048 + g0 * 16384))) ≡ a
sum a b g3 g2 g1 g0 r3 r2 r1 e3 e2 e1 e0 = omega arith

d3 : (a : ℕ) → a ≡ a % 32 + 32 * (a / 32)
d3 a = omega arith

d2 : (a : ℕ) → a / 32 ≡ a / 32 % 8 + 8 * (a / 256)
d2 a = omega arith

d1 : (a : ℕ) → a / 256 ≡ a / 256 % 8 + 8 * (a / 2048)
d1 a = omega arith

d0 : (a : ℕ) → a / 2048 ≡ a / 2048 % 8 + 8 * (a / 16384)
d0 a = omega arith

digits : (a : ℕ) → a % 32 + (a / 32 % 8 * 32 + (a / 256 % 8 * 256 + (a / 2048 % 8 * 2048 + a / 16384 * 16384))) ≡ a
digits a = sum a (a % 32) (a / 32 % 8) (a / 256 % 8) (a / 2048 % 8) (a / 16384) (a / 32) (a / 256) (a / 2048) (d3 a) (d2 a) (d1 a) (d0 a)

pub spread_dense : (a : ℕ) → Proper a → spread (dense a) ≡ a
unfolding dense
spread_dense a p = spread_join (a % 32) (a / 32 % 8) (a / 256 % 8) (a / 2048 % 8) (a / 16384) (omega arith) p.g3 p.g2 p.g1 ∙ digits a

pub dense_small : (a : ℕ) → Proper a → dense a < 48384
unfolding dense
dense_small a p =
    let b : a % 32 < 32 = omega arith in
    let q0 = p.g0 in
    let q1 = p.g1 in
    let q2 = p.g2 in
    let q3 = p.g3 in
    omega arith
