-- Bytes put one after another. Assumes nothing.
use Prim.Native.Nat.{ℕ, ◌+◌, ◌≤◌, ◌<◌}
use mathlib.Core.Path.{◌≡◌, refl, sym, ap, ◌∙◌, subst}
use mathlib.Core.List.{List, [], ◌∷◌, ◌++◌}
use native.Mathlib.Nat.{add-zero}
use native.Mathlib.Numerals.{add-one}
use native.Mathlib.Omega.{arith}
use lib.ListN.{length, get_or, set, drop, length-append, drop_of_length-le}
use lib.Seq.{drop-cons, length-sets}
use Rattle.lent.specs.Put.{Put}
use Rattle.lent.proofs.Stores.{sets_append}

pub put_none : (l : List ℕ) (n : ℕ) → Put l n [] l n
put_none l n = record { written = refl; next = omega arith }

pub put_one : (n x : ℕ) {l l' : List ℕ} {r : ℕ} → l' ≡ set l n x → r ≡ n + 1 → Put l n (x ∷ []) l' r
put_one n x e p = record { written = e; next = p }

-- ys behind xs
pub put_then : {l xs l' ys l'' : List ℕ} {n m r : ℕ} → Put l n xs l' m → Put l' m ys l'' r → Put l n (xs ++ ys) l'' r
put_then {l} {xs} {l'} {ys} {l''} {n} {m} {r} p q = record {
  written = rw (sets_append, ← p.next, ← p.written) q.written;
  next = omega (arith, length-append xs ys, p.next, q.next);
}

-- the same bytes, in other words
pub put_as : {l l' xs ys : List ℕ} {n r : ℕ} → ys ≡ xs → Put l n xs l' r → Put l n ys l' r
put_as {l} {l'} {xs} {ys} {n} {r} e p = subst (λ (x : List ℕ). Put l n x l' r) (sym e) p

-- the buffer keeps its length
pub put_long : {l xs l' : List ℕ} {n r : ℕ} → Put l n xs l' r → length l' ≡ length l
put_long {l} {xs} {l'} {n} p = ap length p.written ∙ length-sets l n xs

-- ---- a loop

-- From l₀ at n₀ on, xs₀ is put by putting xs into l from n on: what a loop keeps that has the rest xs to put.
pub record Rest (l₀ : List ℕ) (n₀ : ℕ) (xs₀ l : List ℕ) (n : ℕ) (xs : List ℕ) : Type 0 where
  pub leads : {l' : List ℕ} {r : ℕ} → Put l n xs l' r → Put l₀ n₀ xs₀ l' r

pub rest_all : (l : List ℕ) (n : ℕ) (xs : List ℕ) → Rest l n xs l n xs
rest_all l n xs = record { leads = λ p. p }

-- ys is put, and zs is left
pub rest_less : {l₀ xs₀ l xs ys zs l₁ : List ℕ} {n₀ n m : ℕ} → Rest l₀ n₀ xs₀ l n xs → Put l n ys l₁ m → xs ≡ ys ++ zs → Rest l₀ n₀ xs₀ l₁ m zs
rest_less {l₀} {xs₀} {l} {xs} {ys} {zs} {l₁} {n₀} {n} {m} w p e = record {
  leads = λ {l'} {r} q. w.leads (put_as e (put_then p q));
}

-- nothing is left
pub rest_none : {l₀ xs₀ l xs : List ℕ} {n₀ n : ℕ} → Rest l₀ n₀ xs₀ l n xs → xs ≡ [] → Put l₀ n₀ xs₀ l n
rest_none {l₀} {xs₀} {l} {xs} {n₀} {n} w e = w.leads (put_as e (put_none l n))

-- ---- the bytes of a run, one a turn

pub run_start : (l : List ℕ) (at : ℕ) (w : List ℕ) → Rest l at w l (at + 0) w
run_start l at w = rw add-zero (rest_all l at w)

pub run_turn : (at i : ℕ) {l₀ w l l' : List ℕ} → Rest l₀ at w l (at + i) (drop i w) → i < length w → l' ≡ set l (at + i) (get_or w i 0)
    → Rest l₀ at w l' (at + (i + 1)) (drop (i + 1) w)
run_turn at i {l₀} {w} r h e = rest_less r (put_one (at + i) (get_or w i 0) e (omega arith)) (rw (add-one, drop-cons w i 0))

pub run_end : (at i : ℕ) {l₀ w l : List ℕ} → Rest l₀ at w l (at + i) (drop i w) → length w ≤ i → Put l₀ at w l (at + i)
run_end at i {l₀} {w} r h = rest_none r (drop_of_length-le w h)
