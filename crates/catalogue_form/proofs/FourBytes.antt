-- Numbers of four bytes, written and read. Assumes nothing.
use Prim.Native.Nat.{ℕ, ◌+◌, ◌*◌, ◌/◌, ◌%◌, ◌<◌}
use mathlib.Core.Path.{◌≡◌, ap}
use Rattle.std.specs.Int.{to_be_bytes}
use Rattle.std.proofs.Common.{w32}
use mathlib.Core.List.{List, [], ◌∷◌, ◌++◌}
use native.Mathlib.Omega.{arith}
use lib.ListN.{get_or, drop}
use lib.Seq.{get_or-drop}
use Rattle.catalogue_form.specs.Form.{big_endian, value}

-- each is a byte
abbrev pub Bytes : List ℕ → Type 0
Bytes l = (i : ℕ) → get_or l i 0 < 256

pub bytes_drop : (n : ℕ) (l : List ℕ) → Bytes l → Bytes (drop n l)
bytes_drop n l b i = rw get_or-drop (b (n + i))

-- a number's digits in base 256
digits : (n : ℕ) → ((n / 16777216 * 256 + n / 65536 % 256) * 256 + n / 256 % 256) * 256 + n % 256 ≡ n
digits n =
    let a : n / 16777216 * 256 + n / 65536 % 256 ≡ n / 65536 = omega arith in
    let b : n / 65536 * 256 + n / 256 % 256 ≡ n / 256 = omega arith in
    let c : n / 256 * 256 + n % 256 ≡ n = omega arith in
    rw (a, b) c

-- what is written is read again
pub value_big_endian : (n : ℕ) (l : List ℕ) → value (big_endian n ++ l) ≡ n
value_big_endian n l = digits n

-- and what is read is written again
pub big_endian_value : (a b c d : ℕ) → b < 256 → c < 256 → d < 256 → big_endian (((a * 256 + b) * 256 + c) * 256 + d) ≡ a ∷ b ∷ c ∷ d ∷ []
big_endian_value a b c d hb hc hd =
    let n = ((a * 256 + b) * 256 + c) * 256 + d in
    let first : n / 16777216 ≡ a = omega arith in
    let second : n / 65536 % 256 ≡ b = omega arith in
    let third : n / 256 % 256 ≡ c = omega arith in
    let last : n % 256 ≡ d = omega arith in
    rw (first, second, third, last)

-- std's four bytes are those
pub be_bytes : (n : ℕ) → n < 4294967296 → to_be_bytes w32 n ≡ big_endian n
be_bytes n h =
    let a : n / 16777216 % 256 ≡ n / 16777216 = omega arith in
    ap (λ (x : ℕ). x ∷ n / 65536 % 256 ∷ n / 256 % 256 ∷ n % 256 ∷ []) a
