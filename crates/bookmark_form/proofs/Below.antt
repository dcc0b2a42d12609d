-- What `all_below` says of the numbers below its bound, and tests that are joined. Assumes nothing.
use Prim.Native.Nat.{ℕ, zero, suc, ◌+◌, ◌≤◌, ◌<◌}
use mathlib.Core.Path.{◌≡◌, refl, sym, ap, ap₂, subst, ◌∙◌}
use mathlib.Core.List.{List, [], ◌∷◌}
use lib.ListN.{length, get_or, take, drop, length-drop}
use lib.Seq.{length-take-le, get_or-take, get_or-drop}
use Rattle.std.specs.List.{list_all, range_with_len}
use mathlib.Core.Bool.{Bool, true, false, false≢true, ◌&&◌}
use native.Mathlib.Numerals.{add-one}
use native.Mathlib.Omega.{arith}
use borrow.Author.Tests.{ltb-true, ltb-false}
use lib.Dec.{ltb}
use Rattle.bookmark_form.specs.Form.{all_below}

-- ---- two tests

and_true : (a : Bool) → (a && true) ≡ a
and_true true = refl
and_true false = refl

and_assoc : (a b c : Bool) → (a && (b && c)) ≡ (a && b && c)
and_assoc true b c = refl
and_assoc false b c = refl

pub and_left : (u v : Bool) → (u && v) ≡ true → u ≡ true
and_left true v e = refl
and_left false v e = e

pub and_right : (u v : Bool) → (u && v) ≡ true → v ≡ true
and_right true v e = e
and_right false v e = absurd (false≢true e)

pub and_both : {u v : Bool} → u ≡ true → v ≡ true → (u && v) ≡ true
and_both {u = true} {v = v} e f = f
and_both {u = false} {v = v} e f = e

-- the first fails; and the first passes
pub stops : (u v : Bool) → u ≡ false → false ≡ (u && v)
stops true v e = absurd (false≢true (sym e))
stops false v e = refl

pub passes : (u v : Bool) {w : Bool} → u ≡ true → w ≡ v → w ≡ (u && v)
passes true v e q = q
passes false v e q = absurd (false≢true e)

-- the first fails, and decides
pub fails : (u v : Bool) {w : Bool} → u ≡ false → w ≡ u → w ≡ (u && v)
fails true v e q = absurd (false≢true (sym e))
fails false v e q = q

-- five tests, and seven, grouped from the front
pub five : (a b c d e : Bool) → (a && b && c && d && e) ≡ (a && (b && (c && (d && e))))
five false b c d e = refl
five true false c d e = refl
five true true false d e = refl
five true true true d e = refl

pub seven : (a b c d e f g : Bool) → (true && a && b && c && d && (true && e && f) && g) ≡ (a && (b && (c && (d && (e && (f && g))))))
seven false b c d e f g = refl
seven true false c d e f g = refl
seven true true false d e f g = refl
seven true true true false e f g = refl
seven true true true true e f g = sym (and_assoc e f g)

-- ---- the tests of the numbers below one

pub below_none : (f : ℕ → Bool) → all_below 0 f ≡ true
unfolding all_below
below_none f = refl

pub below_true : (n : ℕ) (f : ℕ → Bool) → all_below n f ≡ true → f n ≡ true → all_below (n + 1) f ≡ true
unfolding all_below
below_true n f e q = rw add-one (and_both e q)

pub below_at : (n : ℕ) (f : ℕ → Bool) → all_below n f ≡ true → (k : ℕ) → k < n → f k ≡ true
unfolding all_below
below_at zero f e k h = absurd (omega arith)
below_at (suc n) f e k h = go (ltb k n) refl (below_at n f (and_left (all_below n f) (f n) e) k)
  where
    go : (b : Bool) → ltb k n ≡ b → (k < n → f k ≡ true) → f k ≡ true
    go true q r = r (ltb-true k n q)
    go false q r =
        let l = ltb-false k n q in
        let same : n ≡ k = omega arith in
        subst (λ (m : ℕ). f m ≡ true) same (and_right (all_below n f) (f n) e)

pub below_all : (n : ℕ) (f : ℕ → Bool) → ((k : ℕ) → k < n → f k ≡ true) → all_below n f ≡ true
unfolding all_below
below_all zero f h = refl
below_all (suc n) f h = and_both (below_all n f (λ k l. h k (omega arith))) (h n (omega arith))

pub below_false : (n : ℕ) (f : ℕ → Bool) (k : ℕ) → k < n → f k ≡ false → false ≡ all_below n f
below_false n f k h q = go (all_below n f) refl
  where
    go : (b : Bool) → all_below n f ≡ b → false ≡ b
    go false e = refl
    go true e = sym q ∙ below_at n f e k h

-- the end of a loop
pub below_here : (n m : ℕ) (f : ℕ → Bool) → all_below m f ≡ true → m ≡ n → all_below n f ≡ true
below_here n m f e q = subst (λ (k : ℕ). all_below k f ≡ true) q e

-- ---- the tests of a list's numbers, one after the other

cons_below : (n : ℕ) (f : ℕ → Bool) → all_below (suc n) f ≡ f 0 && all_below n (λ k. f (suc k))
unfolding all_below
cons_below zero f = sym (and_true (f 0))
cons_below (suc n) f =
    ap (λ (b : Bool). b && f (suc n)) (cons_below n f) ∙ sym (and_assoc (f 0) (all_below n (λ k. f (suc k))) (f (suc n)))

pub below_list : (f : ℕ → Bool) (l : List ℕ) → list_all f l ≡ all_below (length l) (λ k. f (get_or l k 0))
unfolding all_below
below_list f [] = refl
below_list f (x ∷ l) = ap (λ (b : Bool). f x && b) (below_list f l) ∙ sym (cons_below (length l) (λ k. f (get_or (x ∷ l) k 0)))

pub below_same : (n : ℕ) (f g : ℕ → Bool) → ((k : ℕ) → k < n → f k ≡ g k) → all_below n f ≡ all_below n g
unfolding all_below
below_same zero f g h = refl
below_same (suc n) f g h = ap₂ (λ (a b : Bool). a && b) (below_same n f g (λ k q. h k (omega arith))) (h n (omega arith))

below_range : (a n : ℕ) (f : ℕ → Bool) → list_all f (range_with_len a n) ≡ all_below n (λ k. f (a + k))
unfolding all_below
below_range a zero f = refl
below_range a (suc n) f =
    let z : a ≡ a + 0 = omega arith in
    ap₂ (λ (x y : Bool). x && y) (ap f z)
    (below_range (a + 1) n f ∙ below_same n (λ k. f (a + 1 + k)) (λ k. f (a + suc k)) (λ k q. let e : a + 1 + k ≡ a + suc k = omega arith in ap f e))
    ∙ sym (cons_below n (λ k. f (a + k)))

-- the numbers from 0 on
pub below_numbers : (n : ℕ) (f : ℕ → Bool) → list_all f (range_with_len 0 n) ≡ all_below n f
below_numbers n f = below_range 0 n f ∙ below_same n (λ k. f (0 + k)) f (λ k q. let e : 0 + k ≡ k = omega arith in ap f e)

-- a part of a list
pub below_part : (f : ℕ → Bool) (a n m : ℕ) (l : List ℕ) → m ≡ n → a + n ≤ length l → list_all f (take m (drop a l)) ≡ all_below n (λ k. f (get_or l (a + k) 0))
below_part f a n m l e h =
    let long : length (take n (drop a l)) ≡ n = length-take-le n (drop a l) (omega (arith, h, length-drop a l)) in
    ap (λ (k : ℕ). list_all f (take k (drop a l))) e
    ∙ (below_list f (take n (drop a l))
    ∙ (ap (λ (k : ℕ). all_below k (λ k. f (get_or (take n (drop a l)) k 0))) long
    ∙ below_same n (λ k. f (get_or (take n (drop a l)) k 0)) (λ k. f (get_or l (a + k) 0))
    (λ k q. ap f (get_or-take n (drop a l) k 0 q ∙ get_or-drop a l k 0))))
