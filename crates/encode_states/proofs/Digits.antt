-- A packed state in which one digit is another. Assumes nothing.
use mathlib.Core.Path.{◌≡◌}
use mathlib.Core.Bool.{Bool, true, false, cond}
use Prim.Native.Nat.{ℕ, ◌+◌, ◌-◌, ◌*◌, ◌/◌, ◌%◌, ◌<◌}
use native.Mathlib.Omega.{arith}
use lib.Dec.{eqb}
use mir.Val.{bool_byte}
use borrow.Author.Tests.{eqb-false}
use Rattle.coding.specs.State.{designate, invoke_gl, invoke_gr, resize}
use Rattle.encode_states.specs.Packed.{set_of, unpack, Proper, Packs}

abbrev pub with_g0 : ℕ → ℕ → ℕ
with_g0 a x = a - a / 16384 % 8 * 16384 + x * 16384

module _ (a x : ℕ) (h : x < 6) (p : Proper a) where
  g0_g0 : with_g0 a x / 16384 ≡ x
  g0_g0 = let q = p.g0 in omega arith

  g0_g1 : with_g0 a x / 2048 % 8 ≡ a / 2048 % 8
  g0_g1 = let q = p.g0 in omega arith

  g0_g2 : with_g0 a x / 256 % 8 ≡ a / 256 % 8
  g0_g2 = let q = p.g0 in omega arith

  g0_g3 : with_g0 a x / 32 % 8 ≡ a / 32 % 8
  g0_g3 = let q = p.g0 in omega arith

  g0_gl : with_g0 a x / 2 % 4 ≡ a / 2 % 4
  g0_gl = let q = p.g0 in omega arith

  g0_gr : with_g0 a x / 8 % 4 ≡ a / 8 % 4
  g0_gr = let q = p.g0 in omega arith

  g0_narrow : with_g0 a x % 2 ≡ a % 2
  g0_narrow = let q = p.g0 in omega arith

  pub to_g0 : Packs (with_g0 a x) (designate (unpack a) 0 (set_of x))
  unfolding unpack designate
  to_g0 =
      record {
        proper = record { g0 = rw g0_g0 (omega arith); g1 = rw g0_g1 p.g1; g2 = rw g0_g2 p.g2; g3 = rw g0_g3 p.g3 };
        is = λ i. record { g0 = set_of (g0_g0 i); g1 = set_of (g0_g1 i); g2 = set_of (g0_g2 i); g3 = set_of (g0_g3 i); gl = g0_gl i; gr = g0_gr i; narrow = g0_narrow i };
      }

abbrev pub with_g1 : ℕ → ℕ → ℕ
with_g1 a x = a - a / 2048 % 8 * 2048 + x * 2048

module _ (a x : ℕ) (h : x < 6) (p : Proper a) where
  g1_g0 : with_g1 a x / 16384 ≡ a / 16384
  g1_g0 = omega arith

  g1_g1 : with_g1 a x / 2048 % 8 ≡ x
  g1_g1 = omega arith

  g1_g2 : with_g1 a x / 256 % 8 ≡ a / 256 % 8
  g1_g2 = omega arith

  g1_g3 : with_g1 a x / 32 % 8 ≡ a / 32 % 8
  g1_g3 = omega arith

  g1_gl : with_g1 a x / 2 % 4 ≡ a / 2 % 4
  g1_gl = omega arith

  g1_gr : with_g1 a x / 8 % 4 ≡ a / 8 % 4
  g1_gr = omega arith

  g1_narrow : with_g1 a x % 2 ≡ a % 2
  g1_narrow = omega arith

  pub to_g1 : Packs (with_g1 a x) (designate (unpack a) 1 (set_of x))
  unfolding unpack designate
  to_g1 =
      record {
        proper = record { g0 = rw g1_g0 p.g0; g1 = rw g1_g1 (omega arith); g2 = rw g1_g2 p.g2; g3 = rw g1_g3 p.g3 };
        is = λ i. record { g0 = set_of (g1_g0 i); g1 = set_of (g1_g1 i); g2 = set_of (g1_g2 i); g3 = set_of (g1_g3 i); gl = g1_gl i; gr = g1_gr i; narrow = g1_narrow i };
      }

abbrev pub with_g2 : ℕ → ℕ → ℕ
with_g2 a x = a - a / 256 % 8 * 256 + x * 256

module _ (a x : ℕ) (h : x < 6) (p : Proper a) where
  g2_g0 : with_g2 a x / 16384 ≡ a / 16384
  g2_g0 = omega arith

  g2_g1 : with_g2 a x / 2048 % 8 ≡ a / 2048 % 8
  g2_g1 = omega arith

  g2_g2 : with_g2 a x / 256 % 8 ≡ x
  g2_g2 = omega arith

  g2_g3 : with_g2 a x / 32 % 8 ≡ a / 32 % 8
  g2_g3 = omega arith

  g2_gl : with_g2 a x / 2 % 4 ≡ a / 2 % 4
  g2_gl = omega arith

  g2_gr : with_g2 a x / 8 % 4 ≡ a / 8 % 4
  g2_gr = omega arith

  g2_narrow : with_g2 a x % 2 ≡ a % 2
  g2_narrow = omega arith

  pub to_g2 : Packs (with_g2 a x) (designate (unpack a) 2 (set_of x))
  unfolding unpack designate
  to_g2 =
      record {
        proper = record { g0 = rw g2_g0 p.g0; g1 = rw g2_g1 p.g1; g2 = rw g2_g2 (omega arith); g3 = rw g2_g3 p.g3 };
        is = λ i. record { g0 = set_of (g2_g0 i); g1 = set_of (g2_g1 i); g2 = set_of (g2_g2 i); g3 = set_of (g2_g3 i); gl = g2_gl i; gr = g2_gr i; narrow = g2_narrow i };
      }

abbrev pub with_g3 : ℕ → ℕ → ℕ
with_g3 a x = a - a / 32 % 8 * 32 + x * 32

module _ (a x : ℕ) (h : x < 6) (p : Proper a) where
  g3_g0 : with_g3 a x / 16384 ≡ a / 16384
  g3_g0 = omega arith

  g3_g1 : with_g3 a x / 2048 % 8 ≡ a / 2048 % 8
  g3_g1 = omega arith

  g3_g2 : with_g3 a x / 256 % 8 ≡ a / 256 % 8
  g3_g2 = omega arith

  g3_g3 : with_g3 a x / 32 % 8 ≡ x
  g3_g3 = omega arith

  g3_gl : with_g3 a x / 2 % 4 ≡ a / 2 % 4
  g3_gl = omega arith

  g3_gr : with_g3 a x / 8 % 4 ≡ a / 8 % 4
  g3_gr = omega arith

  g3_narrow : with_g3 a x % 2 ≡ a % 2
  g3_narrow = omega arith

  pub to_g3 : Packs (with_g3 a x) (designate (unpack a) 3 (set_of x))
  unfolding unpack designate
  to_g3 =
      record {
        proper = record { g0 = rw g3_g0 p.g0; g1 = rw g3_g1 p.g1; g2 = rw g3_g2 p.g2; g3 = rw g3_g3 (omega arith) };
        is = λ i. record { g0 = set_of (g3_g0 i); g1 = set_of (g3_g1 i); g2 = set_of (g3_g2 i); g3 = set_of (g3_g3 i); gl = g3_gl i; gr = g3_gr i; narrow = g3_narrow i };
      }

abbrev pub with_gl : ℕ → ℕ → ℕ
with_gl a n = a / 8 * 8 + (n * 2 + a % 2)

module _ (a n : ℕ) (h : n < 4) (p : Proper a) where
  gl_g0 : with_gl a n / 16384 ≡ a / 16384
  gl_g0 = omega arith

  gl_g1 : with_gl a n / 2048 % 8 ≡ a / 2048 % 8
  gl_g1 = omega arith

  gl_g2 : with_gl a n / 256 % 8 ≡ a / 256 % 8
  gl_g2 = omega arith

  gl_g3 : with_gl a n / 32 % 8 ≡ a / 32 % 8
  gl_g3 = omega arith

  gl_gl : with_gl a n / 2 % 4 ≡ n
  gl_gl = omega arith

  gl_gr : with_gl a n / 8 % 4 ≡ a / 8 % 4
  gl_gr = omega arith

  gl_narrow : with_gl a n % 2 ≡ a % 2
  gl_narrow = omega arith

  pub to_gl : Packs (with_gl a n) (invoke_gl (unpack a) n)
  unfolding unpack
  to_gl =
      record {
        proper = record { g0 = rw gl_g0 p.g0; g1 = rw gl_g1 p.g1; g2 = rw gl_g2 p.g2; g3 = rw gl_g3 p.g3 };
        is = λ i. record { g0 = set_of (gl_g0 i); g1 = set_of (gl_g1 i); g2 = set_of (gl_g2 i); g3 = set_of (gl_g3 i); gl = gl_gl i; gr = gl_gr i; narrow = gl_narrow i };
      }

abbrev pub with_gr : ℕ → ℕ → ℕ
with_gr a n = a / 32 * 32 + (n * 8 + a % 8)

module _ (a n : ℕ) (h : n < 4) (p : Proper a) where
  gr_g0 : with_gr a n / 16384 ≡ a / 16384
  gr_g0 = omega arith

  gr_g1 : with_gr a n / 2048 % 8 ≡ a / 2048 % 8
  gr_g1 = omega arith

  gr_g2 : with_gr a n / 256 % 8 ≡ a / 256 % 8
  gr_g2 = omega arith

  gr_g3 : with_gr a n / 32 % 8 ≡ a / 32 % 8
  gr_g3 = omega arith

  gr_gl : with_gr a n / 2 % 4 ≡ a / 2 % 4
  gr_gl = omega arith

  gr_gr : with_gr a n / 8 % 4 ≡ n
  gr_gr = omega arith

  gr_narrow : with_gr a n % 2 ≡ a % 2
  gr_narrow = omega arith

  pub to_gr : Packs (with_gr a n) (invoke_gr (unpack a) n)
  unfolding unpack
  to_gr =
      record {
        proper = record { g0 = rw gr_g0 p.g0; g1 = rw gr_g1 p.g1; g2 = rw gr_g2 p.g2; g3 = rw gr_g3 p.g3 };
        is = λ i. record { g0 = set_of (gr_g0 i); g1 = set_of (gr_g1 i); g2 = set_of (gr_g2 i); g3 = set_of (gr_g3 i); gl = gr_gl i; gr = gr_gr i; narrow = gr_narrow i };
      }

abbrev pub with_size : ℕ → ℕ → ℕ
with_size a n = a / 2 * 2 + n

module _ (a n : ℕ) (h : n < 2) (p : Proper a) where
  narrow_g0 : with_size a n / 16384 ≡ a / 16384
  narrow_g0 = omega arith

  narrow_g1 : with_size a n / 2048 % 8 ≡ a / 2048 % 8
  narrow_g1 = omega arith

  narrow_g2 : with_size a n / 256 % 8 ≡ a / 256 % 8
  narrow_g2 = omega arith

  narrow_g3 : with_size a n / 32 % 8 ≡ a / 32 % 8
  narrow_g3 = omega arith

  narrow_gl : with_size a n / 2 % 4 ≡ a / 2 % 4
  narrow_gl = omega arith

  narrow_gr : with_size a n / 8 % 4 ≡ a / 8 % 4
  narrow_gr = omega arith

  narrow_narrow : with_size a n % 2 ≡ n
  narrow_narrow = omega arith

  pub to_narrow : Packs (with_size a n) (resize (unpack a) n)
  unfolding unpack
  to_narrow =
      record {
        proper = record { g0 = rw narrow_g0 p.g0; g1 = rw narrow_g1 p.g1; g2 = rw narrow_g2 p.g2; g3 = rw narrow_g3 p.g3 };
        is = λ i. record {
          g0 = set_of (narrow_g0 i);
          g1 = set_of (narrow_g1 i);
          g2 = set_of (narrow_g2 i);
          g3 = set_of (narrow_g3 i);
          gl = narrow_gl i;
          gr = narrow_gr i;
          narrow = narrow_narrow i;
        };
      }

pub to_size : (a : ℕ) (b : Bool) → Proper a → Packs (with_size a (bool_byte b)) (resize (unpack a) (cond b 1 0))
to_size a true p = to_narrow a 1 (omega arith) p
to_size a false p = to_narrow a 0 (omega arith) p

-- the size is 0 or 1
pub narrow_not : (a : ℕ) → eqb (unpack a).narrow 1 ≡ false → (unpack a).narrow ≡ 0
unfolding unpack
narrow_not a e = omega (arith, eqb-false (a % 2) 1 e)
