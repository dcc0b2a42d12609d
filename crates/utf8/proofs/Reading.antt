-- Table 3-7 against Table 3-6: what is written is read, and what is read was written so. Assumes nothing.
use mathlib.Core.Path.{◌≡◌, refl, sym, ap, ap₂, ◌∙◌, subst}
use mathlib.Core.Bool.{Bool, true, false, cond, not, ◌&&◌, ◌||◌}
use mathlib.Core.Logic.{◌⊎◌, inl, inr}
use mathlib.Core.List.{List, [], ◌∷◌, ◌++◌}
use Prim.Native.Nat.{ℕ, ◌+◌, ◌*◌, ◌/◌, ◌%◌, ◌≤◌, ◌<◌}
use native.Mathlib.Omega.{arith}
use native.Mathlib.Decide.{dec_lt}
use borrow.Author.Tests.{lt-ltb, le-ltb, le-leb, ltb-true, ltb-false, leb-true, eqb-true, eqb-false}
use lib.Dec.{T, ltb, leb, eqb}
use lib.ListN.{length, take}
use Rattle.utf8.specs.declared.Sequence.{Sequence}
use Rattle.utf8.specs.declared.Sequence.TheVariants.{Scalar, Fault, End}
use Rattle.std.specs.Prelude.{Some, None}
use Rattle.utf8.specs.Utf8.{is_scalar, utf8, trailing, low, high, is_second, is_trailing, two, three, four, sequence, scalar_of}
use Rattle.utf8.proofs.Bytes.{Row, in1, in2, in3, in4, row, row1, row2, row3, row4}

-- ---- a scalar

scalar_low : (c : ℕ) → c < 0xD800 → T (is_scalar c)
unfolding is_scalar
scalar_low c h = rw (lt-ltb c 0xD800 h) tt

scalar_high : (c : ℕ) → 0xE000 ≤ c → c < 0x110000 → T (is_scalar c)
unfolding is_scalar
scalar_high c g h =
    let f : 0xD800 ≤ c = omega arith in
    rw (le-ltb c 0xD800 f, le-leb 0xE000 c g, lt-ltb c 0x110000 h) tt

pub scalar_range : (c : ℕ) → T (is_scalar c) → (c < 0xD800) ⊎ ((0xE000 ≤ c) × (c < 0x110000))
unfolding is_scalar
scalar_range c t = go (ltb c 0xD800) refl (leb 0xE000 c) refl (ltb c 0x110000) refl t
  where
    go : (u : Bool) → ltb c 0xD800 ≡ u → (v : Bool) → leb 0xE000 c ≡ v → (w : Bool) → ltb c 0x110000 ≡ w → T (u || (v && w))
        → (c < 0xD800) ⊎ ((0xE000 ≤ c) × (c < 0x110000))
    go true e v f w g s = inl (ltb-true c 0xD800 e)
    go false e true f true g s = inr (leb-true 0xE000 c f, ltb-true c 0x110000 g)
    go false e true f false g s = absurd s
    go false e false f w g s = absurd s

-- ---- the second byte, and those after it

-- what Table 3-7 says of the second byte b after the first byte a
record Second (a b : ℕ) : Type 0 where
  least : 0x80 ≤ b
  most : b < 0xC0
  e0 : a ≡ 0xE0 → 0xA0 ≤ b
  ed : a ≡ 0xED → b < 0xA0
  f0 : a ≡ 0xF0 → 0x90 ≤ b
  f4 : a ≡ 0xF4 → b < 0x90

record Trailing (b : ℕ) : Type 0 where
  least : 0x80 ≤ b
  most : b < 0xC0

low_le : (a b : ℕ) → Second a b → low a ≤ b
unfolding low
low_le a b s = go (eqb a 0xE0) refl (eqb a 0xF0) refl
  where
    go : (u : Bool) → eqb a 0xE0 ≡ u → (v : Bool) → eqb a 0xF0 ≡ v → cond u 0xA0 (cond v 0x90 0x80) ≤ b
    go true e v f = s.e0 (eqb-true a 0xE0 e)
    go false e true f = s.f0 (eqb-true a 0xF0 f)
    go false e false f = s.least

le_high : (a b : ℕ) → Second a b → b ≤ high a
unfolding high
le_high a b s = go (eqb a 0xED) refl (eqb a 0xF4) refl
  where
    go : (u : Bool) → eqb a 0xED ≡ u → (v : Bool) → eqb a 0xF4 ≡ v → b ≤ cond u 0x9F (cond v 0x8F 0xBF)
    go true e v f = let g : b < 0xA0 = s.ed (eqb-true a 0xED e) in omega arith
    go false e true f = let g : b < 0x90 = s.f4 (eqb-true a 0xF4 f) in omega arith
    go false e false f = let g : b < 0xC0 = s.most in omega arith

second_yes : (a b : ℕ) → Second a b → is_second a b ≡ true
unfolding is_second
second_yes a b s = rw (le-leb (low a) b (low_le a b s), le-leb b (high a) (le_high a b s))

trailing_yes : (b : ℕ) → Trailing b → is_trailing b ≡ true
unfolding is_trailing
trailing_yes b s =
    let g : b ≤ 0xBF = omega arith in
    rw (le-leb 0x80 b s.least, le-leb b 0xBF g)

both : (u v : Bool) → (u && v) ≡ true → (u ≡ true) × (v ≡ true)
both true v e = (refl, e)
both false v e = absurd (subst (λ (w : Bool). T (not w)) e tt)

from_low : (a b : ℕ) → low a ≤ b → (0x80 ≤ b) × (a ≡ 0xE0 → 0xA0 ≤ b) × (a ≡ 0xF0 → 0x90 ≤ b)
unfolding low
from_low a b = go (eqb a 0xE0) refl (eqb a 0xF0) refl
  where
    go : (u : Bool) → eqb a 0xE0 ≡ u → (v : Bool) → eqb a 0xF0 ≡ v → cond u 0xA0 (cond v 0x90 0x80) ≤ b
        → (0x80 ≤ b) × (a ≡ 0xE0 → 0xA0 ≤ b) × (a ≡ 0xF0 → 0x90 ≤ b)
    go true e v f k = omega arith
    go false e true f k = (omega arith, λ p. absurd (eqb-false a 0xE0 e p), λ p. k)
    go false e false f k = (k, λ p. absurd (eqb-false a 0xE0 e p), λ p. absurd (eqb-false a 0xF0 f p))

from_high : (a b : ℕ) → b ≤ high a → (b < 0xC0) × (a ≡ 0xED → b < 0xA0) × (a ≡ 0xF4 → b < 0x90)
unfolding high
from_high a b = go (eqb a 0xED) refl (eqb a 0xF4) refl
  where
    go : (u : Bool) → eqb a 0xED ≡ u → (v : Bool) → eqb a 0xF4 ≡ v → b ≤ cond u 0x9F (cond v 0x8F 0xBF)
        → (b < 0xC0) × (a ≡ 0xED → b < 0xA0) × (a ≡ 0xF4 → b < 0x90)
    go true e v f k = let g : a ≡ 0xED = eqb-true a 0xED e in omega arith
    go false e true f k = (omega arith, λ p. absurd (eqb-false a 0xED e p), λ p. omega arith)
    go false e false f k = (omega arith, λ p. absurd (eqb-false a 0xED e p), λ p. absurd (eqb-false a 0xF4 f p))

second_of : (a b : ℕ) → is_second a b ≡ true → Second a b
unfolding is_second
second_of a b e =
    let l = from_low a b (leb-true (low a) b (both (leb (low a) b) (leb b (high a)) e).0) in
    let h = from_high a b (leb-true b (high a) (both (leb (low a) b) (leb b (high a)) e).1) in
    record { least = l.0; most = h.0; e0 = l.1; ed = h.1; f0 = l.2; f4 = h.2 }

trailing_of : (b : ℕ) → is_trailing b ≡ true → Trailing b
unfolding is_trailing
trailing_of b e =
    let l : 0x80 ≤ b = leb-true 0x80 b (both (leb 0x80 b) (leb b 0xBF) e).0 in
    let h : b ≤ 0xBF = leb-true b 0xBF (both (leb 0x80 b) (leb b 0xBF) e).1 in
    omega arith

-- ---- a sequence by its first byte

pub at1 : (a : ℕ) (l : List ℕ) → a < 0x80 → sequence (a ∷ l) ≡ Scalar a 1
unfolding sequence
at1 a l h = rw (lt-ltb a 0x80 h)

pub at_none : (a : ℕ) (l : List ℕ) → 0x80 ≤ a → a < 0xC2 → sequence (a ∷ l) ≡ Fault
unfolding sequence
at_none a l g h = rw (le-ltb a 0x80 g, lt-ltb a 0xC2 h)

pub at2 : (a : ℕ) (l : List ℕ) → 0xC2 ≤ a → a < 0xE0 → sequence (a ∷ l) ≡ two a l
unfolding sequence
at2 a l g h =
    let e : 0x80 ≤ a = omega arith in
    rw (le-ltb a 0x80 e, le-ltb a 0xC2 g, lt-ltb a 0xE0 h)

pub at3 : (a : ℕ) (l : List ℕ) → 0xE0 ≤ a → a < 0xF0 → sequence (a ∷ l) ≡ three a l
unfolding sequence
at3 a l g h =
    let e : 0x80 ≤ a = omega arith in
    let f : 0xC2 ≤ a = omega arith in
    rw (le-ltb a 0x80 e, le-ltb a 0xC2 f, le-ltb a 0xE0 g, lt-ltb a 0xF0 h)

pub at4 : (a : ℕ) (l : List ℕ) → 0xF0 ≤ a → a < 0xF5 → sequence (a ∷ l) ≡ four a l
unfolding sequence
at4 a l g h =
    let e : 0x80 ≤ a = omega arith in
    let f : 0xC2 ≤ a = omega arith in
    let k : 0xE0 ≤ a = omega arith in
    rw (le-ltb a 0x80 e, le-ltb a 0xC2 f, le-ltb a 0xE0 k, le-ltb a 0xF0 g, lt-ltb a 0xF5 h)

pub at_past : (a : ℕ) (l : List ℕ) → 0xF5 ≤ a → sequence (a ∷ l) ≡ Fault
unfolding sequence
at_past a l g =
    let e : 0x80 ≤ a = omega arith in
    let f : 0xC2 ≤ a = omega arith in
    let k : 0xE0 ≤ a = omega arith in
    let m : 0xF0 ≤ a = omega arith in
    rw (le-ltb a 0x80 e, le-ltb a 0xC2 f, le-ltb a 0xE0 k, le-ltb a 0xF0 m, le-ltb a 0xF5 g)

-- ---- (1) what is written is read

low6 : (x : ℕ) → trailing x % 64 ≡ x % 64
low6 x = omega arith

digit1 : (c : ℕ) → c / 64 ≡ c / 4096 * 64 + c / 64 % 64
digit1 c = omega arith

digit2 : (c : ℕ) → c / 4096 ≡ c / 262144 * 64 + c / 4096 % 64
digit2 c = omega arith

back2 : (c : ℕ) → c < 0x800 → (0xC0 + c / 64) % 32 * 64 + trailing c % 64 ≡ c
back2 c h =
    let p : (0xC0 + c / 64) % 32 ≡ c / 64 = omega arith in
    rw (p, low6 c) (omega arith)

back3 : (c : ℕ) → c < 0x10000 → (0xE0 + c / 4096) % 16 * 4096 + trailing (c / 64) % 64 * 64 + trailing c % 64 ≡ c
back3 c h =
    let p : (0xE0 + c / 4096) % 16 ≡ c / 4096 = omega arith in
    rw (p, low6 (c / 64), low6 c) (join (c / 4096) (c / 64) (c / 64 % 64) (digit1 c) refl)
  where
    join : (x y z : ℕ) → y ≡ x * 64 + z → c / 64 ≡ y → x * 4096 + z * 64 + c % 64 ≡ c
    join x y z e f = omega arith

back4 : (c : ℕ) → c < 0x110000 → (0xF0 + c / 262144 % 8) % 8 * 262144 + trailing (c / 4096) % 64 * 4096 + trailing (c / 64) % 64 * 64 + trailing c % 64 ≡ c
back4 c h =
    let p : (0xF0 + c / 262144 % 8) % 8 ≡ c / 262144 = omega arith in
    rw (p, low6 (c / 4096), low6 (c / 64), low6 c) (join (c / 262144) (c / 4096) (c / 4096 % 64) (c / 64) (c / 64 % 64) (digit2 c) (digit1 c) refl)
  where
    join : (v x w y z : ℕ) → x ≡ v * 64 + w → y ≡ x * 64 + z → c / 64 ≡ y → v * 262144 + w * 4096 + z * 64 + c % 64 ≡ c
    join v x w y z d e f = omega arith

pub sequence_utf8 : (c : ℕ) (rest : List ℕ) → T (is_scalar c) → sequence (utf8 c ++ rest) ≡ Scalar c (length (utf8 c))
unfolding two three four
sequence_utf8 c rest t = go (row c) (scalar_range c t)
  where
    go : Row c → (c < 0xD800) ⊎ ((0xE000 ≤ c) × (c < 0x110000)) → sequence (utf8 c ++ rest) ≡ Scalar c (length (utf8 c))
    go (in1 h) k = rw (row1 c h) (at1 c rest h)
    go (in2 g h) k =
        let a = 0xC0 + c / 64 in
        let s : Second a (trailing c) = omega arith in
        rw (row2 c g h, at2 a (trailing c ∷ rest) (omega arith) (omega arith), second_yes a (trailing c) s, back2 c h)
    go (in3 g h) k =
        let a = 0xE0 + c / 4096 in
        let b = trailing (c / 64) in
        let t : Trailing (trailing c) = omega arith in
        rw (row3 c g h, at3 a (b ∷ trailing c ∷ rest) (omega arith) (omega arith), second_yes a b (second k), trailing_yes (trailing c) t, back3 c h)
      where
        second : (c < 0xD800) ⊎ ((0xE000 ≤ c) × (c < 0x110000)) → Second (0xE0 + c / 4096) (trailing (c / 64))
        second (inl f) = omega arith
        second (inr f) = omega arith
    go (in4 g) (inl f) = absurd (omega arith)
    go (in4 g) (inr f) =
        let a = 0xF0 + c / 262144 % 8 in
        let b = trailing (c / 4096) in
        let d = trailing (c / 64) in
        let s : Second a b = omega arith in
        let t : Trailing d = omega arith in
        let u : Trailing (trailing c) = omega arith in
        rw (row4 c g, at4 a (b ∷ d ∷ trailing c ∷ rest) (omega arith) (omega arith))
        (rw (second_yes a b s, trailing_yes d t, trailing_yes (trailing c) u, back4 c f.1))

-- ---- (2) what is read was written so

-- l begins with the n bytes of the scalar c
pub record Begins (l : List ℕ) (c n : ℕ) : Type 0 where
  pub scalar : T (is_scalar c)
  pub bytes : take n l ≡ utf8 c
  pub count : n ≡ length (utf8 c)

-- from the bytes alone
begins : (l : List ℕ) (c n : ℕ) → T (is_scalar c) → take n l ≡ utf8 c → n ≡ length (take n l) → Begins l c n
begins l c n t b k = record { scalar = t; bytes = b; count = k ∙ ap length b }

write2 : (y z : ℕ) → 2 ≤ y → y < 32 → z < 64 → utf8 (y * 64 + z) ≡ (0xC0 + y) ∷ (0x80 + z) ∷ []
write2 y z f g h =
    let p : (y * 64 + z) / 64 ≡ y = omega arith in
    let q : (y * 64 + z) % 64 ≡ z = omega arith in
    rw (row2 (y * 64 + z) (omega arith) (omega arith), p, q)

write3 : (y z w : ℕ) → 0x800 ≤ y * 4096 + z * 64 + w → y < 16 → z < 64 → w < 64 → utf8 (y * 4096 + z * 64 + w) ≡ (0xE0 + y) ∷ (0x80 + z) ∷ (0x80 + w) ∷ []
write3 y z w e f g h =
    let p : (y * 4096 + z * 64 + w) / 4096 ≡ y = omega arith in
    let q : (y * 4096 + z * 64 + w) / 64 % 64 ≡ z = omega arith in
    let r : (y * 4096 + z * 64 + w) % 64 ≡ w = omega arith in
    rw (row3 (y * 4096 + z * 64 + w) e (omega arith), p, q, r)

write4 : (v y z w : ℕ) → 0x10000 ≤ v * 262144 + y * 4096 + z * 64 + w → v < 8 → y < 64 → z < 64 → w < 64
    → utf8 (v * 262144 + y * 4096 + z * 64 + w) ≡ (0xF0 + v) ∷ (0x80 + y) ∷ (0x80 + z) ∷ (0x80 + w) ∷ []
write4 v y z w d e f g h =
    let o : (v * 262144 + y * 4096 + z * 64 + w) / 262144 % 8 ≡ v = omega arith in
    let p : (v * 262144 + y * 4096 + z * 64 + w) / 4096 % 64 ≡ y = omega arith in
    let q : (v * 262144 + y * 4096 + z * 64 + w) / 64 % 64 ≡ z = omega arith in
    let r : (v * 262144 + y * 4096 + z * 64 + w) % 64 ≡ w = omega arith in
    rw (row4 (v * 262144 + y * 4096 + z * 64 + w) d, o, p, q, r)

begins2 : (a b : ℕ) (l : List ℕ) → 0xC2 ≤ a → a < 0xE0 → Second a b → Begins (a ∷ (b ∷ l)) (a % 32 * 64 + b % 64) 2
begins2 a b l g h s =
    let e : a ≡ 0xC0 + a % 32 = omega arith in
    let f : b ≡ 0x80 + b % 64 = omega arith in
    begins (a ∷ (b ∷ l)) (a % 32 * 64 + b % 64) 2 (scalar_low (a % 32 * 64 + b % 64) (omega arith))
    (ap₂ (λ (x y : ℕ). x ∷ y ∷ []) e f ∙ sym (write2 (a % 32) (b % 64) (omega arith) (omega arith) (omega arith)))
    refl

begins3 : (a b d : ℕ) (l : List ℕ) → 0xE0 ≤ a → a < 0xF0 → Second a b → Trailing d → Begins (a ∷ (b ∷ (d ∷ l))) (a % 16 * 4096 + b % 64 * 64 + d % 64) 3
begins3 a b d l g h s t =
    let e : a ≡ 0xE0 + a % 16 = omega arith in
    let f : b ≡ 0x80 + b % 64 = omega arith in
    let k : d ≡ 0x80 + d % 64 = omega arith in
    begins (a ∷ (b ∷ (d ∷ l))) (a % 16 * 4096 + b % 64 * 64 + d % 64) 3 (scalar (dec_lt a 0xED) (dec_lt 0xED a))
    (e3 e f k ∙ sym (write3 (a % 16) (b % 64) (d % 64) (least (dec_lt 0xE0 a)) (omega arith) (omega arith) (omega arith)))
    refl
  where
    e3 : {x y z : ℕ} → a ≡ x → b ≡ y → d ≡ z → a ∷ b ∷ d ∷ [] ≡ x ∷ y ∷ z ∷ []
    e3 p q r = cc

    least : Dec (0xE0 < a) → 0x800 ≤ a % 16 * 4096 + b % 64 * 64 + d % 64
    least (yes p) = omega arith
    least (no p) = let q : 0xA0 ≤ b = s.e0 (omega (arith, p)) in omega arith

    scalar : Dec (a < 0xED) → Dec (0xED < a) → T (is_scalar (a % 16 * 4096 + b % 64 * 64 + d % 64))
    scalar (yes p) q = scalar_low (a % 16 * 4096 + b % 64 * 64 + d % 64) (omega arith)
    scalar (no p) (yes q) = scalar_high (a % 16 * 4096 + b % 64 * 64 + d % 64) (omega arith) (omega arith)
    scalar (no p) (no q) =
        let r : a ≡ 0xED = omega (arith, p, q) in
        let u : b < 0xA0 = s.ed r in
        scalar_low (a % 16 * 4096 + b % 64 * 64 + d % 64) (omega arith)

begins4 : (a b d e : ℕ) (l : List ℕ) → 0xF0 ≤ a → a < 0xF5 → Second a b → Trailing d → Trailing e
    → Begins (a ∷ (b ∷ (d ∷ (e ∷ l)))) (a % 8 * 262144 + b % 64 * 4096 + d % 64 * 64 + e % 64) 4
begins4 a b d e l g h s t u =
    let f : a ≡ 0xF0 + a % 8 = omega arith in
    let i : b ≡ 0x80 + b % 64 = omega arith in
    let j : d ≡ 0x80 + d % 64 = omega arith in
    let k : e ≡ 0x80 + e % 64 = omega arith in
    let m : 0x10000 ≤ a % 8 * 262144 + b % 64 * 4096 + d % 64 * 64 + e % 64 = least (dec_lt 0xF0 a) in
    begins (a ∷ (b ∷ (d ∷ (e ∷ l)))) (a % 8 * 262144 + b % 64 * 4096 + d % 64 * 64 + e % 64) 4
    (scalar_high (a % 8 * 262144 + b % 64 * 4096 + d % 64 * 64 + e % 64) (omega arith) (most (dec_lt a 0xF4)))
    (e4 f i j k ∙ sym (write4 (a % 8) (b % 64) (d % 64) (e % 64) m (omega arith) (omega arith) (omega arith) (omega arith)))
    refl
  where
    e4 : {x y z w : ℕ} → a ≡ x → b ≡ y → d ≡ z → e ≡ w → a ∷ b ∷ d ∷ e ∷ [] ≡ x ∷ y ∷ z ∷ w ∷ []
    e4 p q r o = cc

    least : Dec (0xF0 < a) → 0x10000 ≤ a % 8 * 262144 + b % 64 * 4096 + d % 64 * 64 + e % 64
    least (yes p) = omega arith
    least (no p) = let q : 0x90 ≤ b = s.f0 (omega (arith, p)) in omega arith

    most : Dec (a < 0xF4) → a % 8 * 262144 + b % 64 * 4096 + d % 64 * 64 + e % 64 < 0x110000
    most (yes p) = omega arith
    most (no p) = let q : b < 0x90 = s.f4 (omega (arith, p)) in omega arith

-- a sequence that is known to be a scalar's
as_read : (l : List ℕ) (x m c n : ℕ) → Begins l x m → Scalar x m ≡ Scalar c n → Begins l c n
as_read l x m c n b e =
    let p : x ≡ c = cc in
    let q : m ≡ n = cc in
    subst (λ (k : ℕ). Begins l k n) p (subst (λ (k : ℕ). Begins l x k) q b)

fault_not : {A : Type 0} {c n : ℕ} → Fault ≡ Scalar c n → A
fault_not e = let z : ◌≡◌ {A = ℕ} 0 1 = cc in absurd (omega arith)

end_not : {A : Type 0} {c n : ℕ} → End ≡ Scalar c n → A
end_not e = let z : ◌≡◌ {A = ℕ} 0 1 = cc in absurd (omega arith)

of2 : (a : ℕ) (l : List ℕ) (c n : ℕ) → 0xC2 ≤ a → a < 0xE0 → two a l ≡ Scalar c n → Begins (a ∷ l) c n
unfolding two
of2 a [] c n g h e = fault_not e
of2 a (b ∷ l) c n g h e = go (is_second a b) refl e
  where
    go : (u : Bool) → is_second a b ≡ u → cond u (Scalar (a % 32 * 64 + b % 64) 2) Fault ≡ Scalar c n → Begins (a ∷ (b ∷ l)) c n
    go true p q = as_read _ _ _ c n (begins2 a b l g h (second_of a b p)) q
    go false p q = fault_not q

of3 : (a : ℕ) (l : List ℕ) (c n : ℕ) → 0xE0 ≤ a → a < 0xF0 → three a l ≡ Scalar c n → Begins (a ∷ l) c n
unfolding three
of3 a [] c n g h e = fault_not e
of3 a (b ∷ []) c n g h e = fault_not e
of3 a (b ∷ (d ∷ l)) c n g h e = go (is_second a b) refl (is_trailing d) refl e
  where
    go : (u : Bool) → is_second a b ≡ u → (v : Bool) → is_trailing d ≡ v
        → cond (u && v) (Scalar (a % 16 * 4096 + b % 64 * 64 + d % 64) 3) Fault ≡ Scalar c n
        → Begins (a ∷ (b ∷ (d ∷ l))) c n
    go true p true r q = as_read _ _ _ c n (begins3 a b d l g h (second_of a b p) (trailing_of d r)) q
    go true p false r q = fault_not q
    go false p v r q = fault_not q

of4 : (a : ℕ) (l : List ℕ) (c n : ℕ) → 0xF0 ≤ a → a < 0xF5 → four a l ≡ Scalar c n → Begins (a ∷ l) c n
unfolding four
of4 a [] c n g h e = fault_not e
of4 a (b ∷ []) c n g h e = fault_not e
of4 a (b ∷ (d ∷ [])) c n g h e = fault_not e
of4 a (b ∷ (d ∷ (f ∷ l))) c n g h e = go (is_second a b) refl (is_trailing d) refl (is_trailing f) refl e
  where
    go : (u : Bool) → is_second a b ≡ u → (v : Bool) → is_trailing d ≡ v → (w : Bool) → is_trailing f ≡ w
        → cond (u && (v && w)) (Scalar (a % 8 * 262144 + b % 64 * 4096 + d % 64 * 64 + f % 64) 4) Fault ≡ Scalar c n
        → Begins (a ∷ (b ∷ (d ∷ (f ∷ l)))) c n
    go true p true r true o q = as_read _ _ _ c n (begins4 a b d f l g h (second_of a b p) (trailing_of d r) (trailing_of f o)) q
    go true p true r false o q = fault_not q
    go true p false r w o q = fault_not q
    go false p v r w o q = fault_not q

pub sequence_begins : (l : List ℕ) (c n : ℕ) → sequence l ≡ Scalar c n → Begins l c n
unfolding sequence
sequence_begins [] c n e = end_not e
sequence_begins (a ∷ l) c n e = go (ltb a 0x80) refl (ltb a 0xC2) refl (ltb a 0xE0) refl (ltb a 0xF0) refl (ltb a 0xF5) refl e
  where
    go : (u : Bool) → ltb a 0x80 ≡ u → (v : Bool) → ltb a 0xC2 ≡ v → (w : Bool) → ltb a 0xE0 ≡ w → (x : Bool) → ltb a 0xF0 ≡ x → (y : Bool) → ltb a 0xF5 ≡ y
        → cond u (Scalar a 1) (cond v Fault (cond w (two a l) (cond x (three a l) (cond y (four a l) Fault)))) ≡ Scalar c n
        → Begins (a ∷ l) c n
    go true p v q w r x s y t e =
        let h : a < 0x80 = ltb-true a 0x80 p in
        as_read _ _ _ c n (begins (a ∷ l) a 1 (scalar_low a (omega arith)) (sym (row1 a h)) refl) e
    go false p true q w r x s y t e = fault_not e
    go false p false q true r x s y t e = of2 a l c n (ltb-false a 0xC2 q) (ltb-true a 0xE0 r) e
    go false p false q false r true s y t e = of3 a l c n (ltb-false a 0xE0 r) (ltb-true a 0xF0 s) e
    go false p false q false r false s true t e = of4 a l c n (ltb-false a 0xF0 s) (ltb-true a 0xF5 t) e
    go false p false q false r false s false t e = fault_not e

-- ---- the end stands only where no byte does

not_end : (u : Bool) (c n : ℕ) → cond u (Scalar c n) Fault ≡ End → ⊥
not_end true c n e = let z : ◌≡◌ {A = ℕ} 0 1 = cc in omega arith
not_end false c n e = let z : ◌≡◌ {A = ℕ} 0 1 = cc in omega arith

two_not_end : (a : ℕ) (l : List ℕ) → two a l ≡ End → ⊥
unfolding two
two_not_end a [] e = not_end false 0 0 e
two_not_end a (b ∷ l) e = not_end (is_second a b) _ _ e

three_not_end : (a : ℕ) (l : List ℕ) → three a l ≡ End → ⊥
unfolding three
three_not_end a [] e = not_end false 0 0 e
three_not_end a (b ∷ []) e = not_end false 0 0 e
three_not_end a (b ∷ (d ∷ l)) e = not_end (is_second a b && is_trailing d) _ _ e

four_not_end : (a : ℕ) (l : List ℕ) → four a l ≡ End → ⊥
unfolding four
four_not_end a [] e = not_end false 0 0 e
four_not_end a (b ∷ []) e = not_end false 0 0 e
four_not_end a (b ∷ (d ∷ [])) e = not_end false 0 0 e
four_not_end a (b ∷ (d ∷ (f ∷ l))) e = not_end (is_second a b && (is_trailing d && is_trailing f)) _ _ e

pub sequence_not_end : (a : ℕ) (l : List ℕ) → sequence (a ∷ l) ≡ End → ⊥
unfolding sequence
sequence_not_end a l e = go (ltb a 0x80) (ltb a 0xC2) (ltb a 0xE0) (ltb a 0xF0) (ltb a 0xF5) e
  where
    go : (u v w x y : Bool) → cond u (Scalar a 1) (cond v Fault (cond w (two a l) (cond x (three a l) (cond y (four a l) Fault)))) ≡ End → ⊥
    go true v w x y e = not_end true a 1 e
    go false true w x y e = not_end false 0 0 e
    go false false true x y e = two_not_end a l e
    go false false false true y e = three_not_end a l e
    go false false false false true e = four_not_end a l e
    go false false false false false e = not_end false 0 0 e

-- ---- a sequence by its scalar

pub scalar_of_lem : (l : List ℕ) (c : ℕ) → scalar_of (sequence l) ≡ Some c → sequence l ≡ Scalar c (length (utf8 c))
scalar_of_lem l c e = go (sequence l) refl e
  where
    go : (s : Sequence) → sequence l ≡ s → scalar_of s ≡ Some c → sequence l ≡ Scalar c (length (utf8 c))
    go (Scalar x n) p q =
        let r : x ≡ c = cc in
        p ∙ ap₂ Scalar r ((sequence_begins l x n p).count ∙ ap (λ (k : ℕ). length (utf8 k)) r)
    go Fault p q = let z : ◌≡◌ {A = ℕ} 0 1 = cc in absurd (omega arith)
    go End p q = let z : ◌≡◌ {A = ℕ} 0 1 = cc in absurd (omega arith)

pub fault_of : (l : List ℕ) → 1 ≤ length l → scalar_of (sequence l) ≡ None → sequence l ≡ Fault
fault_of [] h e = absurd (omega arith)
fault_of (a ∷ l) h e = go (sequence (a ∷ l)) refl e
  where
    go : (s : Sequence) → sequence (a ∷ l) ≡ s → scalar_of s ≡ None → sequence (a ∷ l) ≡ Fault
    go (Scalar x n) p q = let z : ◌≡◌ {A = ℕ} 0 1 = cc in absurd (omega arith)
    go Fault p q = p
    go End p q = absurd (sequence_not_end a l p)

-- where the code read no scalar
pub not_scalar : (l : List ℕ) (s : Sequence) → s ≡ sequence l → ((c n : ℕ) → s ≡ Scalar c n → ⊥) → 1 ≤ length l → sequence l ≡ Fault
not_scalar l (Scalar c n) e h k = absurd (h c n refl)
not_scalar l Fault e h k = sym e
not_scalar [] End e h k = absurd (omega arith)
not_scalar (a ∷ l) End e h k = absurd (sequence_not_end a l (sym e))
