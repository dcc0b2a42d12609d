-- Numbers that are all found among n places are at most n. Assumes nothing.
use mathlib.Core.Path.{◌≡◌, sym, ◌∙◌, ap}
use mathlib.Core.Bool.{cond}
use Prim.Native.Nat.{ℕ, zero, suc, ◌-◌, ◌≤◌, ◌<◌}
use native.Mathlib.Decide.{ℕ_discrete, dec_lt}
use native.Mathlib.Omega.{arith}
use lib.Dec.{ltb}
use borrow.Author.Tests.{lt-ltb, le-ltb}

-- f gives i at one of n places
pub record Hit (n : ℕ) (f : ℕ → ℕ) (i : ℕ) : Type 0 where
  pub at : ℕ
  pub small : at < n
  pub is : f at ≡ i

-- f without the value v
without : ℕ → (ℕ → ℕ) → ℕ → ℕ
without v f k = cond (ltb v (f k)) (f k - 1) (f k)

over : (v : ℕ) (f : ℕ → ℕ) (k i : ℕ) → f k ≡ suc i → v ≤ i → without v f k ≡ i
unfolding without
over v f k i e h = rw (e, lt-ltb v (suc i) (omega arith)) (omega arith)

under : (v : ℕ) (f : ℕ → ℕ) (k i : ℕ) → f k ≡ i → i < v → without v f k ≡ i
unfolding without
under v f k i e h = rw (e, le-ltb v i (omega arith))

-- a hit at another value than the last place's
fewer : (n : ℕ) (f : ℕ → ℕ) (i : ℕ) → (f n ≡ i → ⊥) → Hit (suc n) f i → Hit n f i
fewer n f i ne h = go (ℕ_discrete h.at n)
  where
    go : Dec (h.at ≡ n) → Hit n f i
    go (yes e) = absurd (ne (sym (ap f e) ∙ h.is))
    go (no e) = record { at = h.at; small = omega (arith, h.small); is = h.is }

pub pigeonhole : (n m : ℕ) (f : ℕ → ℕ) → ((i : ℕ) → i < m → Hit n f i) → m ≤ n
pigeonhole zero zero f hits = omega arith
pigeonhole zero (suc m) f hits = absurd (omega (arith, (hits 0 (omega arith)).small))
pigeonhole (suc n) zero f hits = omega arith
pigeonhole (suc n) (suc m) f hits = go (dec_lt (f n) (suc m)) (pigeonhole n (suc m) f) (pigeonhole n m (without (f n) f))
  where
    go : Dec (f n < suc m) → (((i : ℕ) → i < suc m → Hit n f i) → suc m ≤ n) → (((i : ℕ) → i < m → Hit n (without (f n) f) i) → m ≤ n) → suc m ≤ suc n
    go (no h) r q = omega (arith, r (λ i l. fewer n f i (λ e. h (omega arith)) (hits i l)))
    go (yes h) r q = omega (arith, q (λ i l. at i l (dec_lt i (f n))))
      where
        at : (i : ℕ) → i < m → Dec (i < f n) → Hit n (without (f n) f) i
        at i l (yes k) =
            let x = fewer n f i (λ e. omega arith) (hits i (omega arith)) in
            record { at = x.at; small = x.small; is = under (f n) f x.at i x.is k }
        at i l (no k) =
            let x = fewer n f (suc i) (λ e. k (omega arith)) (hits (suc i) (omega arith)) in
            record { at = x.at; small = x.small; is = over (f n) f x.at i x.is (omega arith) }
