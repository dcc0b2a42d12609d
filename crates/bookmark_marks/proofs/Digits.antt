-- Laws of `unpacked`: how many digits come out, and that one turn takes one. Assumes nothing.
use Prim.Native.Nat.{ℕ, zero, suc, ◌+◌, ◌-◌, ◌/◌, ◌%◌, ◌≤◌, ◌<◌}
use mathlib.Core.Path.{◌≡◌, refl, sym, ap, ◌∙◌}
use mathlib.Core.Bool.{Bool, true, false, cond}
use mathlib.Core.List.{List, [], ◌∷◌}
use native.Mathlib.Omega.{arith}
use borrow.Author.Tests.{eq-eqb, ne_eqb, eqb-true, eqb-false}
use lib.Dec.{eqb}
use lib.ListN.{length}
use Rattle.decode_output.specs.Waiting.{mark_of}
use Rattle.bookmark_marks.specs.Marks.{unpacked}

-- nothing is left
pub digits_none : (k w : ℕ) (more : List ℕ) → w ≡ 0 → unpacked k w more ≡ more
unfolding unpacked
digits_none zero w more e = refl
digits_none (suc k) w more e = ap (λ (t : Bool). cond t more (unpacked k (w / 8) (mark_of (w % 8) ∷ more))) (eq-eqb w 0 e)

digits_zero : (w : ℕ) (more : List ℕ) → unpacked zero w more ≡ more
unfolding unpacked
digits_zero w more = refl

-- the lowest digit
pub digits_some : (k w : ℕ) (more : List ℕ) → (w ≡ 0 → ⊥) → unpacked (suc k) w more ≡ unpacked k (w / 8) (mark_of (w % 8) ∷ more)
unfolding unpacked
digits_some k w more f = ap (λ (t : Bool). cond t more (unpacked k (w / 8) (mark_of (w % 8) ∷ more))) (ne_eqb w 0 f)

-- what was taken is kept
pub digits_behind : (k w : ℕ) (more : List ℕ) → length (unpacked k w more) ≡ length (unpacked k w []) + length more
unfolding unpacked
digits_behind zero w more = omega arith
digits_behind (suc k) w more = go (eqb w 0) (digits_behind k (w / 8) (mark_of (w % 8) ∷ more)) (digits_behind k (w / 8) (mark_of (w % 8) ∷ []))
  where
    go : (t : Bool) → length (unpacked k (w / 8) (mark_of (w % 8) ∷ more)) ≡ length (unpacked k (w / 8) []) + length (mark_of (w % 8) ∷ more)
        → length (unpacked k (w / 8) (mark_of (w % 8) ∷ [])) ≡ length (unpacked k (w / 8) []) + 1
        → length (cond t more (unpacked k (w / 8) (mark_of (w % 8) ∷ more))) ≡ length (cond t [] (unpacked k (w / 8) (mark_of (w % 8) ∷ []))) + length more
    go true a b = omega arith
    go false a b = omega (arith, a, b)

-- a digit counts one
pub digits_count : (k w : ℕ) → (w ≡ 0 → ⊥) → length (unpacked (suc k) w []) ≡ suc (length (unpacked k (w / 8) []))
digits_count k w f = omega (arith, ap length (digits_some k w [] f), digits_behind k (w / 8) (mark_of (w % 8) ∷ []))

-- as many steps as there are digits are enough
pub digits_enough : (k w : ℕ) (more : List ℕ) → unpacked k w more ≡ unpacked (length (unpacked k w [])) w more
digits_enough zero w more = sym (ap (λ (n : ℕ). unpacked n w more) (ap length (digits_zero w [])))
digits_enough (suc k) w more = go (eqb w 0) refl (digits_enough k (w / 8) (mark_of (w % 8) ∷ more))
  where
    go : (t : Bool) → eqb w 0 ≡ t
        → unpacked k (w / 8) (mark_of (w % 8) ∷ more) ≡ unpacked (length (unpacked k (w / 8) [])) (w / 8) (mark_of (w % 8) ∷ more)
        → unpacked (suc k) w more ≡ unpacked (length (unpacked (suc k) w [])) w more
    go true e h = digits_none (suc k) w more (eqb-true w 0 e) ∙ sym (digits_none (length (unpacked (suc k) w [])) w more (eqb-true w 0 e))
    go false e h =
        digits_some k w more (eqb-false w 0 e) ∙ h ∙ sym (digits_some (length (unpacked k (w / 8) [])) w more (eqb-false w 0 e))
        ∙ ap (λ (n : ℕ). unpacked n w more) (sym (digits_count k w (eqb-false w 0 e)))

-- ---- the loop of `count`

-- n digits are counted, and w is left
pub record Counted (waiting w n : ℕ) : Type 0 where
  pub few : n ≤ 16
  pub all : length (unpacked 16 waiting []) ≡ n + length (unpacked (16 - n) w [])

pub counted_start : (waiting : ℕ) → Counted waiting waiting 0
counted_start waiting = record { few = omega arith; all = omega arith }

pub counted_more : {waiting w n : ℕ} → Counted waiting w n → n < 16 → (w ≡ 0 → ⊥) → Counted waiting (w / 8) (n + 1)
counted_more {waiting} {w} {n} h l f =
    let e : 16 - n ≡ suc (16 - (n + 1)) = omega arith in
    record { few = omega arith; all = omega (arith, h.all, ap (λ (k : ℕ). length (unpacked k w [])) e, digits_count (16 - (n + 1)) w f) }

pub counted_none : {waiting w n : ℕ} → Counted waiting w n → w ≡ 0 → n ≡ length (unpacked 16 waiting [])
counted_none {waiting} {w} {n} h e = omega (arith, h.all, ap length (digits_none (16 - n) w [] e))

pub counted_all : {waiting w n : ℕ} → Counted waiting w n → 16 ≤ n → n ≡ length (unpacked 16 waiting [])
unfolding unpacked
counted_all {waiting} {w} {n} h l =
    let e : 16 - n ≡ 0 = omega (arith, h.few) in
    omega (arith, h.all, ap (λ (k : ℕ). length (unpacked k w [])) e)
