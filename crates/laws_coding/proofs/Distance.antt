-- How far one state of the coder is from another: the bytes of the controls that turn it into the other. Assumes nothing.
use mathlib.Core.Path.{◌≡◌, refl}
use mathlib.Core.Bool.{Bool, true, false, cond, ◌&&◌}
use mathlib.Core.List.{List}
use Prim.Native.Nat.{ℕ, zero, suc, ◌+◌, ◌≤◌, ◌<◌}
use native.Mathlib.Omega.{arith}
use lib.Dec.{eqb}
use lib.ListN.{length}
use borrow.Author.Tests.{eq-eqb, ne_eqb, eqb-true}
use Rattle.sets.specs.Sets.{designation}
use Rattle.coding.specs.State.{State, same_state, set_in, designate, invoke_gl, invoke_gr, resize, lock_gl, lock_gr}
use Rattle.coding.specs.Admissible.{Control, designates, locks_gl, locks_gr, msz, nsz}

-- c where a and b differ, else 0
unless : ℕ → ℕ → ℕ → ℕ
unless a b c = cond (eqb a b) 0 c

same : (a c : ℕ) → unless a a c ≡ 0
unfolding unless
same a c = rw (eq-eqb a a refl)

other : (a b c : ℕ) → (a ≡ b → ⊥) → unless a b c ≡ c
unfolding unless
other a b c ne = rw (ne_eqb a b ne)

most : (a b c : ℕ) → unless a b c ≤ c
unfolding unless
most a b c = go (eqb a b)
  where
    go : (t : Bool) → cond t 0 c ≤ c
    go true = omega arith
    go false = omega arith

-- the distance of s from a
pub distance : State → State → ℕ
distance s a =
    unless s.g0 a.g0 (length (designation a.g0 0)) + unless s.g1 a.g1 (length (designation a.g1 1)) +
    unless s.g2 a.g2 (length (designation a.g2 2)) + unless s.g3 a.g3 (length (designation a.g3 3)) +
    unless s.gl a.gl (length (lock_gl a.gl)) + unless s.gr a.gr (length (lock_gr a.gr)) + unless s.narrow a.narrow 1

-- two states that are one are equally far
both : (a b : ℕ) (more : Bool) → eqb a b && more ≡ true → (a ≡ b) × (more ≡ true)
both a b more e = go (eqb a b) refl e
  where
    go : (t : Bool) → eqb a b ≡ t → t && more ≡ true → (a ≡ b) × (more ≡ true)
    go true q e = (eqb-true a b q, e)
    go false q e = absurd (let z : ◌≡◌ {A = ℕ} 0 1 = cc in omega arith)

pub distance_same : (s t a : State) → same_state s t ≡ true → distance s a ≡ distance t a
unfolding same_state distance
distance_same s t a e =
    let e0 = both s.g0 t.g0 _ e in
    let e1 = both s.g1 t.g1 _ e0.1 in
    let e2 = both s.g2 t.g2 _ e1.1 in
    let e3 = both s.g3 t.g3 _ e2.1 in
    let e4 = both s.gl t.gl _ e3.1 in
    let e5 = both s.gr t.gr _ e4.1 in
    let e6 = eqb-true s.narrow t.narrow e5.1 in
    cc

pub distance_none : (s : State) → distance s s ≡ 0
unfolding distance
distance_none s = simp same

-- a control that a asks for shortens it by its bytes
pub designated : (s a : State) (n : ℕ) → n < 4 → (set_in s n ≡ set_in a n → ⊥) → length (designation (set_in a n) n) + distance (designate s n (set_in a n)) a ≡ distance s a
unfolding distance designate set_in
designated s a zero h ne = omega (arith, same a.g0 (length (designation a.g0 0)), other s.g0 a.g0 (length (designation a.g0 0)) ne)
designated s a (suc zero) h ne = omega (arith, same a.g1 (length (designation a.g1 1)), other s.g1 a.g1 (length (designation a.g1 1)) ne)
designated s a (suc (suc zero)) h ne = omega (arith, same a.g2 (length (designation a.g2 2)), other s.g2 a.g2 (length (designation a.g2 2)) ne)
designated s a (suc (suc (suc zero))) h ne = omega (arith, same a.g3 (length (designation a.g3 3)), other s.g3 a.g3 (length (designation a.g3 3)) ne)
designated s a (suc (suc (suc (suc n)))) h ne = absurd (omega arith)

pub locked_gl : (s a : State) → (s.gl ≡ a.gl → ⊥) → length (lock_gl a.gl) + distance (invoke_gl s a.gl) a ≡ distance s a
unfolding distance
locked_gl s a ne = omega (arith, same a.gl (length (lock_gl a.gl)), other s.gl a.gl (length (lock_gl a.gl)) ne)

pub locked_gr : (s a : State) → (s.gr ≡ a.gr → ⊥) → length (lock_gr a.gr) + distance (invoke_gr s a.gr) a ≡ distance s a
unfolding distance
locked_gr s a ne = omega (arith, same a.gr (length (lock_gr a.gr)), other s.gr a.gr (length (lock_gr a.gr)) ne)

pub resized : (s a : State) → (s.narrow ≡ a.narrow → ⊥) → 1 + distance (resize s a.narrow) a ≡ distance s a
unfolding distance
resized s a ne = omega (arith, same a.narrow 1, other s.narrow a.narrow 1 ne)

pub sized_closer : (s a : State) → distance (resize s a.narrow) a ≤ distance s a
unfolding distance
sized_closer s a = omega (arith, same a.narrow 1)

-- a control of a lengthens it by no more than its bytes
pub controlled : (s : State) {a t : State} {bs : List ℕ} → Control a bs t → distance s t ≤ distance s a + length bs
unfolding distance designate
controlled s (designates x zero l h) = omega (arith, most s.g0 x (length (designation x 0)))
controlled s (designates x (suc zero) l h) = omega (arith, most s.g1 x (length (designation x 1)))
controlled s (designates x (suc (suc zero)) l h) = omega (arith, most s.g2 x (length (designation x 2)))
controlled s (designates x (suc (suc (suc zero))) l h) = omega (arith, most s.g3 x (length (designation x 3)))
controlled s (designates x (suc (suc (suc (suc n)))) l h) = absurd (omega arith)
controlled s (locks_gl n h) = omega (arith, most s.gl n (length (lock_gl n)))
controlled s (locks_gr n l h) = omega (arith, most s.gr n (length (lock_gr n)))
controlled s msz = omega (arith, most s.narrow 1 1)
controlled s nsz = omega (arith, most s.narrow 0 1)
