-- The code elements of a packed state, by their number, and the lengths of what designates and invokes them. Assumes nothing.
use mathlib.Core.Path.{◌≡◌, refl, ap}
use Prim.Native.Nat.{ℕ, zero, suc, ◌+◌, ◌-◌, ◌*◌, ◌/◌, ◌%◌, ◌^◌, ◌≤◌, ◌<◌}
use native.Mathlib.Decide.{ℕ_discrete}
use native.Mathlib.Omega.{arith}
use lib.ListN.{length}
use borrow.Author.Tests.{ne_eqb}
use Rattle.sets.specs.Sets.{designation}
use Rattle.coding.specs.State.{set_in, designate, lock_gl, lock_gr, single}
use Rattle.encode_states.specs.Packed.{set_of, unpack, Proper, Packs, Codes}
use Rattle.encode_states.proofs.Digits.{with_g0, with_g1, with_g2, with_g3, to_g0, to_g1, to_g2, to_g3}

-- the digit of the code element n, by its weight
module _ (a : ℕ) (p : Proper a) where
  pub in_element : (n : ℕ) → n < 4 → Codes (a / 2 ^ (14 - 3 * n) % 8) (set_in (unpack a) n)
  unfolding unpack set_in
  in_element zero h = let q = p.g0 in let e : a / 16384 % 8 ≡ a / 16384 = omega arith in record { small = omega arith; is = ap set_of e }
  in_element (suc zero) h = record { small = omega arith; is = refl }
  in_element (suc (suc zero)) h = record { small = omega arith; is = refl }
  in_element (suc (suc (suc zero))) h = record { small = omega arith; is = refl }
  in_element (suc (suc (suc (suc n)))) h = absurd (omega arith)

-- what `designate` takes away and adds
abbrev taken : ℕ → ℕ → ℕ
taken a n = a / 2 ^ (14 - 3 * n) % 8 * 2 ^ (14 - 3 * n) % 4294967296

abbrev put : ℕ → ℕ → ℕ
put x n = x * 2 ^ (14 - 3 * n) % 4294967296

pub record Moved (a n x : ℕ) : Type 0 where
  pub below : taken a n ≤ a
  pub fits : a - taken a n + put x n < 4294967296
  pub is : Packs (a - taken a n + put x n) (designate (unpack a) n (set_of x))

moves : (a n x b c d : ℕ) → taken a n ≡ b → put x n ≡ c → b ≤ a → a - b + c ≡ d → d < 4294967296 → Packs d (designate (unpack a) n (set_of x)) → Moved a n x
moves a n x b c d e f l g h p = record { below = omega arith; fits = rw (e, f, g) h; is = rw (e, f, g) p }

pub moved : (a n x : ℕ) → Proper a → n < 4 → x < 6 → Moved a n x
moved a zero x p h k = let q = p.g0 in moves a 0 x (a / 16384 % 8 * 16384) (x * 16384) (with_g0 a x) (omega arith) (omega arith) (omega arith) (omega arith) (omega arith) (to_g0 a x k p)
moved a (suc zero) x p h k = let q = p.g0 in moves a 1 x (a / 2048 % 8 * 2048) (x * 2048) (with_g1 a x) (omega arith) (omega arith) (omega arith) (omega arith) (omega arith) (to_g1 a x k p)
moved a (suc (suc zero)) x p h k =
    let q = p.g0 in moves a 2 x (a / 256 % 8 * 256) (x * 256) (with_g2 a x) (omega arith) (omega arith) (omega arith) (omega arith) (omega arith) (to_g2 a x k p)
moved a (suc (suc (suc zero))) x p h k =
    let q = p.g0 in moves a 3 x (a / 32 % 8 * 32) (x * 32) (with_g3 a x) (omega arith) (omega arith) (omega arith) (omega arith) (omega arith) (to_g3 a x k p)
moved a (suc (suc (suc (suc n)))) x p h k = absurd (omega arith)

-- Table 7-2: a two-byte set takes a byte more, but to G0
pub to_first : (x n : ℕ) → x < 6 → n ≡ 0 → 3 ≡ length (designation (set_of x) n)
unfolding set_of designation
to_first zero n h e = rw e
to_first (suc zero) n h e = refl
to_first (suc (suc zero)) n h e = refl
to_first (suc (suc (suc zero))) n h e = refl
to_first (suc (suc (suc (suc zero)))) n h e = refl
to_first (suc (suc (suc (suc (suc zero))))) n h e = rw e
to_first (suc (suc (suc (suc (suc (suc x)))))) n h e = absurd (omega arith)

pub kanji : (x n : ℕ) → (n ≡ 0 → ⊥) → x ≡ 0 → 4 ≡ length (designation (set_of x) n)
unfolding set_of designation
kanji x n ne e = rw (e, ne_eqb n 0 ne)

pub symbols : (x n : ℕ) → (n ≡ 0 → ⊥) → x ≡ 5 → 4 ≡ length (designation (set_of x) n)
unfolding set_of designation
symbols x n ne e = rw (e, ne_eqb n 0 ne)

pub one_byte : (x n : ℕ) → x < 6 → (x ≡ 0 → ⊥) → (x ≡ 5 → ⊥) → 3 ≡ length (designation (set_of x) n)
unfolding set_of designation
one_byte zero n h e f = absurd (e refl)
one_byte (suc zero) n h e f = refl
one_byte (suc (suc zero)) n h e f = refl
one_byte (suc (suc (suc zero))) n h e f = refl
one_byte (suc (suc (suc (suc zero)))) n h e f = refl
one_byte (suc (suc (suc (suc (suc zero))))) n h e f = absurd (f refl)
one_byte (suc (suc (suc (suc (suc (suc x)))))) n h e f = absurd (omega arith)

pub designation_most : (x n : ℕ) → x < 6 → length (designation (set_of x) n) ≤ 4
designation_most x n h = go (ℕ_discrete n 0) (ℕ_discrete x 0) (ℕ_discrete x 5)
  where
    go : Dec (n ≡ 0) → Dec (x ≡ 0) → Dec (x ≡ 5) → length (designation (set_of x) n) ≤ 4
    go (yes a) b c = omega (arith, to_first x n h a)
    go (no a) (yes b) c = omega (arith, kanji x n a b)
    go (no a) (no b) (yes c) = omega (arith, symbols x n a c)
    go (no a) (no b) (no c) = omega (arith, one_byte x n h b c)

-- Table 7-1
pub lock_short : (n : ℕ) → n < 2 → 1 ≡ length (lock_gl n)
unfolding lock_gl
lock_short zero h = refl
lock_short (suc zero) h = refl
lock_short (suc (suc n)) h = absurd (omega arith)

pub lock_long : (n : ℕ) → 2 ≤ n → 2 ≡ length (lock_gl n)
unfolding lock_gl
lock_long zero h = absurd (omega arith)
lock_long (suc zero) h = absurd (omega arith)
lock_long (suc (suc zero)) h = refl
lock_long (suc (suc (suc n))) h = refl

pub lock_most : (n : ℕ) → length (lock_gl n) ≤ 2
unfolding lock_gl
lock_most zero = omega arith
lock_most (suc zero) = omega arith
lock_most (suc (suc zero)) = omega arith
lock_most (suc (suc (suc n))) = omega arith

pub lock_right : (n : ℕ) → length (lock_gr n) ≡ 2
unfolding lock_gr
lock_right zero = refl
lock_right (suc zero) = refl
lock_right (suc (suc zero)) = refl
lock_right (suc (suc (suc n))) = refl

pub single_one : (n : ℕ) → length (single n) ≡ 1
unfolding single
single_one zero = refl
single_one (suc zero) = refl
single_one (suc (suc zero)) = refl
single_one (suc (suc (suc n))) = refl
