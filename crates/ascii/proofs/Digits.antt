-- Laws of decimal and hexadecimal. Assumes nothing.
use Prim.Native.Nat.{ℕ, zero, suc, ◌+◌, ◌*◌, ◌/◌, ◌%◌, ◌≤◌, ◌<◌}
use mathlib.Core.Path.{◌≡◌, refl, sym, ap, ◌∙◌}
use mathlib.Core.Bool.{Bool, true, false}
use mathlib.Core.List.{List, [], ◌∷◌, ◌++◌}
use native.Mathlib.Numerals.{add-one}
use native.Mathlib.Omega.{arith}
use borrow.Author.Tests.{ltb-true, ltb-false, lt-ltb, le-ltb}
use lib.Dec.{ltb}
use lib.ListN.{length, get_or, set, drop, length-append, drop_of_length-le}
use lib.Seq.{drop-cons}
use Rattle.ascii.specs.Ascii.{digit, decimal_in, decimal, hexadecimal}
use Rattle.lent.specs.Put.{Put}
use Rattle.lent.proofs.Putting.{put_one, put_then, Rest, rest_less}

-- ---- decimal

last : (turns n : ℕ) → 10 ≤ n → decimal_in (suc turns) n ≡ decimal_in turns (n / 10) ++ (digit (n % 10) ∷ [])
unfolding decimal_in
last turns n h = rw (le-ltb n 10 h, decimal_in)

-- as many turns as the number, or more, make no difference
turns : (a b n : ℕ) → n < a → n < b → decimal_in a n ≡ decimal_in b n
unfolding decimal_in
turns zero b n p q = absurd (omega arith)
turns (suc a) zero n p q = absurd (omega arith)
turns (suc a) (suc b) n p q = go (ltb n 10) refl (turns a b (n / 10))
  where
    go : (t : Bool) → ltb n 10 ≡ t → (n / 10 < a → n / 10 < b → decimal_in a (n / 10) ≡ decimal_in b (n / 10)) → decimal_in (suc a) n ≡ decimal_in (suc b) n
    go true e f = rw (e, decimal_in) (rw (e, decimal_in) refl)
    go false e f =
        let h : 10 ≤ n = ltb-false n 10 e in
        last a n h ∙ ap (λ (l : List ℕ). l ++ (digit (n % 10) ∷ [])) (f (omega arith) (omega arith)) ∙ sym (last b n h)

pub decimal_one : (n : ℕ) → n < 10 → decimal n ≡ digit n ∷ []
unfolding decimal decimal_in
decimal_one n h = rw (lt-ltb n 10 h, decimal_in) (rw (lt-ltb n 10 h))

pub decimal_more : (n : ℕ) → 10 ≤ n → decimal n ≡ decimal (n / 10) ++ (digit (n % 10) ∷ [])
unfolding decimal
decimal_more n h = last n n h ∙ ap (λ (l : List ℕ). l ++ (digit (n % 10) ∷ [])) (turns n (suc (n / 10)) (n / 10) (omega arith) (omega arith))

-- the digits are written: the only one, or the last behind those of the rest
pub decimal_put : {l l' : List ℕ} {at n d : ℕ} → n < 10 → d ≡ digit n → l' ≡ set l at d → Put l at (decimal n) l' (at + 1)
decimal_put {l} {l'} {at} {n} h e p = rw (decimal_one n h) (put_one at (digit n) (p ∙ ap (set l at) e) refl)

pub decimal_last : {l l₁ l₂ : List ℕ} {at m n d : ℕ} → 10 ≤ n → Put l at (decimal (n / 10)) l₁ m → d ≡ digit (n % 10) → l₂ ≡ set l₁ m d → Put l at (decimal n) l₂ (m + 1)
decimal_last {l} {l₁} {l₂} {at} {m} {n} h q e p = rw (decimal_more n h) (put_then q (put_one m (digit (n % 10)) (p ∙ ap (set l₁ m) e) refl))

-- 10, k times
abbrev pub tens : ℕ → ℕ
tens zero = 1
tens (suc k) = 10 * tens k

-- how many digits a number has
pub decimal_few : (k n : ℕ) → n < tens (suc k) → length (decimal n) ≤ suc k
decimal_few zero n h = rw (decimal_one n (omega arith)) (omega arith)
decimal_few (suc k) n h = go (ltb n 10) refl (decimal_few k (n / 10) (omega arith))
  where
    go : (t : Bool) → ltb n 10 ≡ t → length (decimal (n / 10)) ≤ suc k → length (decimal n) ≤ suc (suc k)
    go true e f = rw (decimal_one n (ltb-true n 10 e)) (omega arith)
    go false e f = rw (decimal_more n (ltb-false n 10 e), length-append) (omega arith)

-- ---- hexadecimal

pub hexadecimal_more : (bs : List ℕ) (i : ℕ) → i < length bs
    → hexadecimal (drop i bs) ≡ (digit (get_or bs i 0 / 16) ∷ digit (get_or bs i 0 % 16) ∷ []) ++ hexadecimal (drop (i + 1) bs)
unfolding hexadecimal
hexadecimal_more bs i h = rw (add-one, drop-cons bs i 0)

-- one more byte
pub hexadecimal_turn : (bs : List ℕ) (i : ℕ) {l₀ l l₁ l₂ : List ℕ} {at n d e : ℕ} → Rest l₀ at (hexadecimal bs) l n (hexadecimal (drop i bs)) → i < length bs → d ≡ digit
    (get_or bs i 0 / 16) → e ≡ digit (get_or bs i 0 % 16)
    → l₁ ≡ set l n d → l₂ ≡ set l₁ (n + 1) e → Rest l₀ at (hexadecimal bs) l₂ (n + 2) (hexadecimal (drop (i + 1) bs))
hexadecimal_turn bs i {l₀} {l} {l₁} {l₂} {at} {n} {d} {e} r h p q x y =
    rest_less r
    (put_then
    (put_one n (digit (get_or bs i 0 / 16)) (x ∙ ap (set l n) p) refl)
    (put_one (n + 1) (digit (get_or bs i 0 % 16)) (y ∙ ap (set l₁ (n + 1)) q) (omega arith)))
    (hexadecimal_more bs i h)

pub hexadecimal_none : (bs : List ℕ) (i : ℕ) → length bs ≤ i → hexadecimal (drop i bs) ≡ []
unfolding hexadecimal
hexadecimal_none bs i h = rw (drop_of_length-le bs h)

pub hexadecimal_long : (bs : List ℕ) → length (hexadecimal bs) ≡ 2 * length bs
unfolding hexadecimal
hexadecimal_long [] = refl
hexadecimal_long (b ∷ bs) = omega (arith, hexadecimal_long bs)
