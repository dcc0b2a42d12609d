-- Counts of private-use characters: of a text in two parts, of a character n times; and which characters are none. Assumes nothing.
use Prim.Native.Nat.{ℕ, zero, suc, ◌+◌, ◌≤◌, ◌<◌}
use mathlib.Core.Path.{◌≡◌, refl, sym, ◌∙◌}
use mathlib.Core.Bool.{Bool, true, false, false≢true}
use mathlib.Core.List.{List, [], ◌∷◌, ◌++◌}
use native.Mathlib.Nat.{zero-add}
use native.Mathlib.Omega.{arith}
use borrow.Author.Tests.{le-leb, lt-leb, leb-true}
use lib.Dec.{leb}
use lib.ListN.{get_or, replicate}
use Rattle.private_use.specs.PrivateUse.{is_private_use, private_use}

-- ---- a character

pub below : (c : ℕ) → c < 0xE000 → is_private_use c ≡ false
unfolding is_private_use
below c h = rw (lt-leb 0xE000 c h)

pub behind : (c : ℕ) → 0xF8FF < c → is_private_use c ≡ false
unfolding is_private_use
behind c h = let a : 0xE000 ≤ c = omega arith in rw (le-leb 0xE000 c a, lt-leb c 0xF8FF h)

-- one takes three bytes and is no mark
pub at_least : (c : ℕ) → is_private_use c ≡ true → 0xE000 ≤ c
unfolding is_private_use
at_least c = go (leb 0xE000 c) refl
  where
    go : (u : Bool) → leb 0xE000 c ≡ u → is_private_use c ≡ true → 0xE000 ≤ c
    go true e h = leb-true 0xE000 c e
    go false e h = absurd (false≢true (sym (rw e) ∙ h))

-- ---- a text

pub count_cons : (c : ℕ) (l : List ℕ) → private_use (c ∷ l) ≡ private_use (c ∷ []) + private_use l
unfolding private_use
count_cons c l = go (is_private_use c) refl
  where
    go : (u : Bool) → is_private_use c ≡ u → private_use (c ∷ l) ≡ private_use (c ∷ []) + private_use l
    go true e = rw e (omega arith)
    go false e = rw e (sym (zero-add (private_use l)))

pub count_append : (a b : List ℕ) → private_use (a ++ b) ≡ private_use a + private_use b
unfolding private_use
count_append [] b = sym (zero-add (private_use b))
count_append (c ∷ a) b = omega (arith, count_cons c (a ++ b), count_cons c a, count_append a b)

-- ---- a text without one

pub first_none : (c : ℕ) (l : List ℕ) → private_use (c ∷ l) ≡ 0 → is_private_use c ≡ false
unfolding private_use
first_none c l e = go (is_private_use c) refl
  where
    go : (u : Bool) → is_private_use c ≡ u → is_private_use c ≡ false
    go true q = absurd (omega (arith, rw q at e))
    go false q = q

pub rest_none : (c : ℕ) (l : List ℕ) → private_use (c ∷ l) ≡ 0 → private_use l ≡ 0
rest_none c l e = omega (arith, count_cons c l, e)

pub none_more : (c : ℕ) (l : List ℕ) → is_private_use c ≡ false → private_use l ≡ 0 → private_use (c ∷ l) ≡ 0
unfolding private_use
none_more c l q e = rw q e

-- it has one at no place
pub none_at : (l : List ℕ) → private_use l ≡ 0 → (k : ℕ) → is_private_use (get_or l k 0) ≡ false
none_at [] e k = below 0 (omega arith)
none_at (c ∷ l) e zero = first_none c l e
none_at (c ∷ l) e (suc k) = none_at l (rest_none c l e) k

-- ---- a character n times

pub count_private : (n c : ℕ) → is_private_use c ≡ true → private_use (replicate n c) ≡ n
unfolding private_use
count_private zero c h = refl
count_private (suc n) c h = rw h (omega (arith, count_private n c h))

pub count_ordinary : (n c : ℕ) → is_private_use c ≡ false → private_use (replicate n c) ≡ 0
unfolding private_use
count_ordinary zero c h = refl
count_ordinary (suc n) c h = rw h (count_ordinary n c h)

pub count_most : (n c : ℕ) → private_use (replicate n c) ≤ n
count_most n c = go (is_private_use c) refl
  where
    go : (u : Bool) → is_private_use c ≡ u → private_use (replicate n c) ≤ n
    go true e = omega (arith, count_private n c e)
    go false e = omega (arith, count_ordinary n c e)
