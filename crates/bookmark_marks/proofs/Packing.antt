-- Up to sixteen marks come out of the decoder's number as they went in, and more than sixteen show by it. Assumes nothing.
use Prim.Native.Nat.{ℕ, zero, suc, ◌+◌, ◌-◌, ◌*◌, ◌/◌, ◌%◌, ◌≤◌, ◌<◌}
use mathlib.Core.Path.{◌≡◌, refl, sym, ap, subst, ◌∙◌}
use mathlib.Core.Bool.{Bool, true, false, cond, false≢true}
use mathlib.Core.List.{List, [], ◌∷◌, ◌++◌, append-nil}
use native.Mathlib.Omega.{arith}
use borrow.Author.Tests.{eqb-true, lt-ltb, le-ltb, ltb-true, ltb-false}
use lib.Dec.{eqb, ltb}
use lib.ListN.{length}
use Rattle.base.specs.Lists.{All}
use Rattle.base.proofs.Tests.{either}
use Rattle.tables.specs.declared.Assignment.{Assignment}
use Rattle.tables.specs.Kanji.{non_spacing, has_character}
use Rattle.decode_output.specs.Waiting.{digit, mark_of, pushed, packed, seventeen_digits}
use Rattle.bookmark_marks.specs.Marks.{unpacked}
use Rattle.bookmark_marks.proofs.Digits.{digits_none, digits_some}

-- ---- the seven marks

-- what holds of a list's characters holds of one that it has
pub of_each : (P : ℕ → Type 0) (l : List Assignment) → All (λ a. P a.character) l → (m : ℕ) → has_character l m ≡ true → P m
unfolding has_character
of_each P [] p m h = absurd (false≢true h)
of_each P (a ∷ l) p m h = go (eqb a.character m) refl (of_each P l p.1 m)
  where
    go : (t : Bool) → eqb a.character m ≡ t → (has_character l m ≡ true → P m) → P m
    go true e f = subst P (eqb-true a.character m e) p.0
    go false e f = f (sym (ap (λ (t : Bool). cond t true (has_character l m)) e) ∙ h)

pub mark_digit : (m : ℕ) → has_character non_spacing m ≡ true → mark_of (digit m) ≡ m
unfolding mark_of digit
mark_digit = of_each (λ m. mark_of (digit m) ≡ m) non_spacing (refl, (refl, (refl, (refl, (refl, (refl, (refl, tt)))))))

-- a digit and not 0
pub digit_some : (m : ℕ) → (1 ≤ digit m) × (digit m ≤ 7)
unfolding digit
digit_some m =
    let P : ℕ → Type 0 = λ d. (1 ≤ d) × (d ≤ 7) in
    either P (eqb m 0x301) (omega arith, omega arith)
    (either P (eqb m 0x300) (omega arith, omega arith)
    (either P (eqb m 0x308) (omega arith, omega arith)
    (either P (eqb m 0x302) (omega arith, omega arith)
    (either P (eqb m 0x305) (omega arith, omega arith)
    (either P (eqb m 0x332) (omega arith, omega arith) (omega arith, omega arith))))))

-- ---- the least number of n + 1 octal digits

unfoldable pow : ℕ → ℕ
pow zero = 1
pow (suc n) = 8 * pow n

pow_some : (n : ℕ) → 1 ≤ pow n
unfolding pow
pow_some zero = omega arith
pow_some (suc n) = omega (arith, pow_some n)

pow_more : (a b : ℕ) → a ≤ b → pow a ≤ pow b
unfolding pow
pow_more zero b h = pow_some b
pow_more (suc a) zero h = absurd (omega arith)
pow_more (suc a) (suc b) h = omega (arith, pow_more a b (omega arith))

pow_sixteen : pow 16 ≡ seventeen_digits
unfolding pow
pow_sixteen = refl

pow_zero : pow 0 ≡ 1
unfolding pow
pow_zero = refl

pow_suc : (n : ℕ) → pow (suc n) ≡ 8 * pow n
unfolding pow
pow_suc n = refl

-- ---- a mark more

pushed_few : (w m : ℕ) → w < seventeen_digits → pushed w m ≡ w * 8 + digit m
unfolding pushed
pushed_few w m h = ap (λ (t : Bool). cond t (w * 8 + digit m) w) (lt-ltb w seventeen_digits h)

pushed_many : (w m : ℕ) → seventeen_digits ≤ w → pushed w m ≡ w
unfolding pushed
pushed_many w m h = ap (λ (t : Bool). cond t (w * 8 + digit m) w) (le-ltb w seventeen_digits h)

-- a number of j digits, where j are fewer than sixteen
room : (j w : ℕ) → w < pow j → j < 16 → w < seventeen_digits
room j w h l = omega (arith, pow_more j 16 (omega arith), pow_sixteen)

pushed_below : (j w m : ℕ) → w < pow j → j < 16 → pushed w m < pow (suc j)
pushed_below j w m h l = omega (arith, pushed_few w m (room j w h l), (digit_some m).1, pow_suc j)

-- ---- marks more

below : (ms : List ℕ) (j w : ℕ) → w < pow j → j + length ms ≤ 16 → packed w ms < seventeen_digits
unfolding packed
below [] j w h l = omega (arith, pow_more j 16 (omega arith), pow_sixteen)
below (m ∷ ms) j w h l = below ms (suc j) (pushed w m) (pushed_below j w m h (omega arith)) (omega arith)

pub packed_few : (ms : List ℕ) → length ms ≤ 16 → packed 0 ms < seventeen_digits
packed_few ms h = below ms 0 0 (pow_some 0) (omega arith)

above : (ms : List ℕ) (j w : ℕ) → pow j ≤ w → 16 ≤ j + length ms → seventeen_digits ≤ packed w ms
unfolding packed
above [] j w h l = omega (arith, pow_more 16 j (omega arith), pow_sixteen)
above (m ∷ ms) j w h l = go (ltb w seventeen_digits) refl (above ms (suc j) (pushed w m)) (above ms 16 (pushed w m))
  where
    go : (t : Bool) → ltb w seventeen_digits ≡ t
        → (pow (suc j) ≤ pushed w m → 16 ≤ suc j + length ms → seventeen_digits ≤ packed (pushed w m) ms)
        → (pow 16 ≤ pushed w m → 16 ≤ 16 + length ms → seventeen_digits ≤ packed (pushed w m) ms)
        → seventeen_digits ≤ packed (pushed w m) ms
    go true e f g = f (omega (arith, h, pow_suc j, pushed_few w m (ltb-true w seventeen_digits e))) (omega (arith, l))
    go false e f g = g (omega (arith, pow_sixteen, ltb-false w seventeen_digits e, pushed_many w m (ltb-false w seventeen_digits e))) (omega arith)

pub packed_many : (ms : List ℕ) → 16 < length ms → seventeen_digits ≤ packed 0 ms
unfolding packed
packed_many [] h = absurd (omega arith)
packed_many (m ∷ ms) h =
    above ms 0 (pushed 0 m) (omega (arith, pushed_few 0 m (omega arith), (digit_some m).0, pow_zero)) (omega arith)

-- ---- and out again

back : (ms : List ℕ) (k j w : ℕ) (more : List ℕ) → All (λ m. has_character non_spacing m ≡ true) ms → w < pow j → j + length ms ≤ 16
    → unpacked (length ms + k) (packed w ms) more ≡ unpacked k w (ms ++ more)
unfolding packed
back [] k j w more a h l = ap (λ (n : ℕ). unpacked n w more) (omega arith)
back (m ∷ ms) k j w more a h l =
    let x = pushed w m in
    let e : x ≡ w * 8 + digit m = pushed_few w m (room j w h (omega arith)) in
    let d = digit_some m in
    let n : length ms + suc k ≡ suc (length ms) + k = omega arith in
    let q : x / 8 ≡ w = omega (arith, e, d.0, d.1) in
    let r : x % 8 ≡ digit m = omega (arith, e, d.0, d.1) in
    ap (λ (i : ℕ). unpacked i (packed x ms) more) (sym n)
    ∙ back ms (suc k) (suc j) x more a.1 (pushed_below j w m h (omega arith)) (omega arith)
    ∙ digits_some k x (ms ++ more) (λ z. absurd (omega (arith, e, d.0, z)))
    ∙ ap (λ (v : ℕ). unpacked k v (mark_of (x % 8) ∷ (ms ++ more))) q
    ∙ ap (λ (v : ℕ). unpacked k w (v ∷ (ms ++ more))) (ap mark_of r ∙ mark_digit m a.0)

pub unpacked_packed : (ms : List ℕ) → All (λ m. has_character non_spacing m ≡ true) ms → length ms ≤ 16 → unpacked 16 (packed 0 ms) [] ≡ ms
unpacked_packed ms a h =
    let n : 16 ≡ length ms + (16 - length ms) = omega arith in
    ap (λ (k : ℕ). unpacked k (packed 0 ms) []) n ∙ back ms (16 - length ms) 0 0 [] a (pow_some 0) (omega arith)
    ∙ digits_none (16 - length ms) 0 (ms ++ []) refl ∙ append-nil ms
