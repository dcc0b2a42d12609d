-- No two numbers are one state. Assumes nothing.
use mathlib.Core.Path.{◌≡◌, refl, sym, ap, ◌∙◌}
use mathlib.Core.Bool.{Bool, true, false, cond, ◌&&◌, false≢true}
use Prim.Native.Nat.{ℕ, zero, suc, ◌+◌, ◌-◌, ◌/◌, ◌%◌}
use native.Mathlib.Omega.{arith}
use lib.Dec.{eqb, ltb}
use borrow.Author.Tests.{eq-eqb, eqb-true, le-ltb}
use Rattle.coding.specs.State.{State, same_state}
use Rattle.encode_states.specs.Packed.{set_of, unpack}

-- the code of a set
code_of : ℕ → ℕ
code_of s = cond (ltb s 4) s (cond (ltb s 12) 4 (s - 9))

code_of_lem : (x : ℕ) → code_of (set_of x) ≡ x
unfolding set_of code_of
code_of_lem zero = refl
code_of_lem (suc zero) = refl
code_of_lem (suc (suc zero)) = refl
code_of_lem (suc (suc (suc zero))) = refl
code_of_lem (suc (suc (suc (suc zero)))) = refl
code_of_lem (suc (suc (suc (suc (suc zero))))) = refl
code_of_lem (suc (suc (suc (suc (suc (suc zero)))))) = refl
code_of_lem (suc (suc (suc (suc (suc (suc (suc x))))))) = rw (le-ltb (16 + x) 4 (omega arith), le-ltb (16 + x) 12 (omega arith)) (omega arith)

pub one_set : (x y : ℕ) → set_of x ≡ set_of y → x ≡ y
one_set x y e = sym (code_of_lem x) ∙ (ap code_of e ∙ code_of_lem y)

eqb_self : (n : ℕ) → eqb n n ≡ true
eqb_self n = eq-eqb n n refl

and_left : (a b : Bool) → (a && b) ≡ true → a ≡ true
and_left true b e = refl
and_left false b e = e

and_right : (a b : Bool) → (a && b) ≡ true → b ≡ true
and_right true b e = e
and_right false b e = absurd (false≢true e)

pub from_same : (s t : State) → same_state s t ≡ true → s ≡ t
unfolding same_state
from_same s t e =
    let r0 = and_right (eqb s.g0 t.g0) _ e in
    let r1 = and_right (eqb s.g1 t.g1) _ r0 in
    let r2 = and_right (eqb s.g2 t.g2) _ r1 in
    let r3 = and_right (eqb s.g3 t.g3) _ r2 in
    let r4 = and_right (eqb s.gl t.gl) _ r3 in
    let e0 = eqb-true _ _ (and_left _ _ e) in
    let e1 = eqb-true _ _ (and_left _ _ r0) in
    let e2 = eqb-true _ _ (and_left _ _ r1) in
    let e3 = eqb-true _ _ (and_left _ _ r2) in
    let e4 = eqb-true _ _ (and_left _ _ r3) in
    let e5 = eqb-true _ _ (and_left _ _ r4) in
    let e6 = eqb-true _ _ (and_right (eqb s.gr t.gr) _ r4) in
    λ i. record { g0 = e0 i; g1 = e1 i; g2 = e2 i; g3 = e3 i; gl = e4 i; gr = e5 i; narrow = e6 i }

-- a digit at a time: `omega` does not do all seven at once
d1 : (a b : ℕ) → a / 2048 % 8 ≡ b / 2048 % 8 → a / 16384 ≡ b / 16384 → a / 2048 ≡ b / 2048
d1 a b h k = omega arith

d2 : (a b : ℕ) → a / 256 % 8 ≡ b / 256 % 8 → a / 2048 ≡ b / 2048 → a / 256 ≡ b / 256
d2 a b h k = omega arith

d3 : (a b : ℕ) → a / 32 % 8 ≡ b / 32 % 8 → a / 256 ≡ b / 256 → a / 32 ≡ b / 32
d3 a b h k = omega arith

dr : (a b : ℕ) → a / 8 % 4 ≡ b / 8 % 4 → a / 32 ≡ b / 32 → a / 8 ≡ b / 8
dr a b h k = omega arith

dl : (a b : ℕ) → a / 2 % 4 ≡ b / 2 % 4 → a / 8 ≡ b / 8 → a / 2 ≡ b / 2
dl a b h k = omega arith

dn : (a b : ℕ) → a % 2 ≡ b % 2 → a / 2 ≡ b / 2 → a ≡ b
dn a b h k = omega arith

pub one_state : (a b : ℕ) → unpack a ≡ unpack b → a ≡ b
unfolding unpack
one_state a b e =
    dn a b (ap (λ (s : State). s.narrow) e)
    (dl a b (ap (λ (s : State). s.gl) e)
    (dr a b (ap (λ (s : State). s.gr) e)
    (d3 a b (one_set (a / 32 % 8) (b / 32 % 8) (ap (λ (s : State). s.g3) e))
    (d2 a b (one_set (a / 256 % 8) (b / 256 % 8) (ap (λ (s : State). s.g2) e))
    (d1 a b (one_set (a / 2048 % 8) (b / 2048 % 8) (ap (λ (s : State). s.g1) e)) (one_set (a / 16384) (b / 16384) (ap (λ (s : State). s.g0) e)))))))

-- as the test of `push` sees it
pub same_of : (a b : ℕ) → a ≡ b → same_state (unpack a) (unpack b) ≡ true
unfolding same_state unpack
same_of a b e = rw (← e) (simp (eqb_self))

not-true : (t : Bool) → (t ≡ true → ⊥) → t ≡ false
not-true true h = absurd (h refl)
not-true false h = refl

pub differ : (a b : ℕ) → (a ≡ b → ⊥) → same_state (unpack a) (unpack b) ≡ false
differ a b ne = not-true _ (λ e. ne (one_state a b (from_same (unpack a) (unpack b) e)))
