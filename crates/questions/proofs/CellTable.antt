-- Question 1: one more cell of the loops, the table taken in four parts, and what a table that passed gives its callers.
-- Assumes nothing.
use Prim.Native.Nat.{ℕ, zero, suc, ◌+◌, ◌-◌, ◌/◌, ◌≤◌, ◌<◌}
use mathlib.Core.Path.{◌≡◌, refl, sym, ap, ◌∙◌}
use mathlib.Core.Bool.{Bool, true, false, not, ◌&&◌, and-eq-true_iff}
use mathlib.Core.List.{List, [], ◌∷◌, ◌++◌}
use native.Mathlib.Nat.{not-suc-le-zero}
use native.Mathlib.Omega.{arith}
use borrow.Author.Tests.{ltb-true, ltb-false, leb-true, leb-false, le-leb, eqb-true, eqb-false, eq-eqb, ne_eqb, not-true}
use lib.Bits.{bit_or, or_add_and, and_le_l, and_le_r}
use lib.Dec.{leb, ltb, eqb}
use lib.ListN.{length, get_or, take, drop, length-drop, take-append-drop, get_or-eq_default}
use Rattle.std.specs.Prelude.{map, fold}
use denote.Bor.{Bor}
use lib.Seq.{drop-drop, take_all, get_or-take, get_or-drop}
use Rattle.questions.specs.Questions.{all, scalar, zero?, rows, cell_count, no_surrogate, empty_rows, cells_hold}

-- ---- Tests of one cell

-- the code's test for a surrogate: the upper five bits are those of D800
pub scalar_is : (x : ℕ) → not (eqb (x / 2048) 27) ≡ scalar x
scalar_is x = ap not (go (leb 0xD800 x) (leb x 0xDFFF) refl refl)
  where
    go : (a b : Bool) → leb 0xD800 x ≡ a → leb x 0xDFFF ≡ b → eqb (x / 2048) 27 ≡ a && b
    go true true p q = eq-eqb (x / 2048) 27 (omega (arith, leb-true 0xD800 x p, leb-true x 0xDFFF q))
    go true false p q = ne_eqb (x / 2048) 27 (λ e. omega (arith, leb-false x 0xDFFF q))
    go false b p q = ne_eqb (x / 2048) 27 (λ e. omega (arith, leb-false 0xD800 x p))

-- bits that are or-ed are zero where both are
pub or_zero : (a b : ℕ) → eqb (bit_or a b) 0 ≡ eqb a 0 && eqb b 0
or_zero a b = go (eqb a 0) (eqb b 0) refl refl
  where
    go : (x y : Bool) → eqb a 0 ≡ x → eqb b 0 ≡ y → eqb (bit_or a b) 0 ≡ x && y
    go true true p q = eq-eqb (bit_or a b) 0 (omega (arith, or_add_and a b, eqb-true a 0 p, eqb-true b 0 q))
    go true false p q = ne_eqb (bit_or a b) 0 (λ e. eqb-false b 0 q (omega (arith, or_add_and a b, and_le_l a b, and_le_r a b)))
    go false y p q = ne_eqb (bit_or a b) 0 (λ e. eqb-false a 0 p (omega (arith, or_add_and a b, and_le_l a b, and_le_r a b)))

zero_scalar : (x : ℕ) → zero? x ≡ true → scalar x ≡ true
zero_scalar x h = rw (eqb-true x 0 h)

-- ---- The folds over a part of the table

and_assoc : (a b c : Bool) → a && (b && c) ≡ a && b && c
and_assoc true b c = refl
and_assoc false b c = refl

and_true : (a : Bool) → a && true ≡ a
and_true true = refl
and_true false = refl

-- what the lent cells hold
scalars_from : (cells : List (Bor ℕ)) (b : Bool) → fold (λ good x. good && scalar x.now) b cells ≡ b && all scalar (map (λ x. x.now) cells)
unfolding all
scalars_from [] b = sym (and_true b)
scalars_from (x ∷ t) b = scalars_from t (b && scalar x.now) ∙ sym (and_assoc b (scalar x.now) (all scalar (map (λ x. x.now) t)))

pub fold_scalars : (cells : List (Bor ℕ)) (t : List ℕ) → map (λ x. x.now) cells ≡ t → fold (λ good x. good && scalar x.now) true cells ≡ all scalar t
fold_scalars cells t e = scalars_from cells true ∙ ap (all scalar) e

bits_from : (t : List ℕ) (b : ℕ) → eqb (fold (λ bits x. bit_or bits x) b t) 0 ≡ eqb b 0 && all zero? t
unfolding all
bits_from [] b = sym (and_true (eqb b 0))
bits_from (x ∷ t) b =
    bits_from t (bit_or b x) ∙ ap (λ (c : Bool). c && all zero? t) (or_zero b x) ∙ sym (and_assoc (eqb b 0) (zero? x) (all zero? t))

pub fold_bits : (t : List ℕ) → eqb (fold (λ bits x. bit_or bits x) 0 t) 0 ≡ all zero? t
fold_bits t = bits_from t 0

module _ (f : ℕ → Bool) where
  all_append : (s t : List ℕ) → all f (s ++ t) ≡ all f s && all f t
  unfolding all
  all_append [] t = refl
  all_append (x ∷ s) t = ap (λ (b : Bool). f x && b) (all_append s t) ∙ and_assoc (f x) (all f s) (all f t)

  -- the test at a place
  all_at : (t : List ℕ) → all f t ≡ true → (k : ℕ) → k < length t → f (get_or t k 0) ≡ true
  unfolding all
  all_at [] h k l = absurd (not-suc-le-zero l)
  all_at (x ∷ t) h zero l = ((and-eq-true_iff (f x) (all f t)).0 h).0
  all_at (x ∷ t) h (suc k) l = all_at t ((and-eq-true_iff (f x) (all f t)).0 h).1 k (omega arith)

-- ---- The table in four parts

no_bits : (l : List ℕ) → all zero? l ≡ true → all scalar l ≡ true
unfolding all
no_bits [] h = refl
no_bits (x ∷ l) h =
    let both = (and-eq-true_iff (zero? x) (all zero? l)).0 h in
    (and-eq-true_iff (scalar x) (all scalar l)).1 (zero_scalar x both.0, no_bits l both.1)

and_false : (a : Bool) → a && false ≡ false
and_false true = refl
and_false false = refl

join : (a b z c d w : Bool) → (z ≡ true → b ≡ true) → (w ≡ true → d ≡ true) → a && z && c && w ≡ a && (b && (c && d)) && (z && w)
join false b z c d w p q = refl
join true b false c d w p q = sym (and_false (b && (c && d)))
join true b true false d w p q = rw (p refl)
join true b true true d false p q = sym (and_false (b && d))
join true b true true d true p q = rw (p refl, q refl)

-- where the second and the last part are zero, only the other two can hold a surrogate
four : (p q r s : List ℕ) → all scalar p && all zero? q && all scalar r && all zero? s ≡ all scalar (p ++ (q ++ (r ++ s))) && (all zero? q && all zero? s)
four p q r s =
    join (all scalar p) (all scalar q) (all zero? q) (all scalar r) (all scalar s) (all zero? s) (no_bits q) (no_bits s)
    ∙ sym (rw (all_append scalar p (q ++ (r ++ s)), all_append scalar q (r ++ s), all_append scalar r s))

-- a list from a place on, in two
split : (a n : ℕ) (t : List ℕ) → take n (drop a t) ++ drop (a + n) t ≡ drop a t
split a n t = rw (← drop-drop n a t) (take-append-drop n (drop a t))

whole : (t : List ℕ) → length t ≡ 8836 → take 752 t ++ (take 658 (drop 752 t) ++ (take 6486 (drop 1410 t) ++ take 940 (drop 7896 t))) ≡ t
whole t long =
    ap (λ (l : List ℕ). take 752 t ++ (take 658 (drop 752 t) ++ (take 6486 (drop 1410 t) ++ l)))
    (take_all 940 (drop 7896 t) (omega (arith, length-drop 7896 t)))
    ∙ ap (λ (l : List ℕ). take 752 t ++ (take 658 (drop 752 t) ++ l)) (split 1410 6486 t)
    ∙ ap (λ (l : List ℕ). take 752 t ++ l) (split 752 658 t)
    ∙ take-append-drop 752 t

-- what the code asks of the parts
pub parts : (t : List ℕ) → length t ≡ 8836 → all scalar (take 752 t) && all zero? (take 658 (drop 752 t)) && all scalar (take 6486 (drop 1410 t)) && all zero?
    (take 940 (drop 7896 t)) ≡ cells_hold t
unfolding cells_hold
parts t long =
    let p : List ℕ = take 752 t in
    let q : List ℕ = take 658 (drop 752 t) in
    let r : List ℕ = take 6486 (drop 1410 t) in
    let s : List ℕ = take 940 (drop 7896 t) in
    four p q r s
    ∙ ap (λ (l : List ℕ). all scalar l && (all zero? q && all zero? s)) (whole t long)
    ∙ ap (λ (b : Bool). b && all scalar t && (all zero? q && all zero? s)) (sym (eq-eqb (length t) 8836 long))

-- a table of another length
pub not_long : (t : List ℕ) → (length t ≡ 8836 → ⊥) → false ≡ cells_hold t
unfolding cells_hold
not_long t h = ap (λ (b : Bool). b && no_surrogate t && empty_rows t) (sym (ne_eqb (length t) 8836 h))

-- ---- A table that passed

scalar_range : (x : ℕ) → scalar x ≡ true → 0xD800 ≤ x → 0xDFFF < x
scalar_range x h low = leb-false x 0xDFFF (rw (le-leb 0xD800 x low) at (not-true (leb 0xD800 x && leb x 0xDFFF) h))

-- past the end `get_or` gives 0, which passes both tests
at_any : (f : ℕ → Bool) → f 0 ≡ true → (t : List ℕ) → all f t ≡ true → (k : ℕ) → f (get_or t k 0) ≡ true
at_any f z t h k = go (ltb k (length t)) refl
  where
    go : (b : Bool) → ltb k (length t) ≡ b → f (get_or t k 0) ≡ true
    go true e = all_at f t h k (ltb-true k (length t) e)
    go false e = rw (get_or-eq_default t 0 (ltb-false k (length t) e)) z

row_zero : (a n : ℕ) (t : List ℕ) → all zero? (take n (drop a t)) ≡ true → (k : ℕ) → a ≤ k → k < a + n → get_or t k 0 ≡ 0
row_zero a n t h k low high =
    let there : a + (k - a) ≡ k = omega arith in
    let inside : k - a < n = omega arith in
    ap (λ (m : ℕ). get_or t m 0) (sym there) ∙ sym (get_or-drop a t (k - a) 0) ∙ sym (get_or-take n (drop a t) (k - a) 0 inside)
    ∙ eqb-true (get_or (take n (drop a t)) (k - a) 0) 0 (at_any zero? refl (take n (drop a t)) h (k - a))

-- what question 1 gives the callers
pub record Cells (t : List ℕ) : Type 0 where
  pub long : length t ≡ 8836
  pub no_surrogate : (k : ℕ) → 0xD800 ≤ get_or t k 0 → 0xDFFF < get_or t k 0
  pub rows_9_15 : (k : ℕ) → 752 ≤ k → k < 1410 → get_or t k 0 ≡ 0
  pub rows_85_94 : (k : ℕ) → 7896 ≤ k → k < 8836 → get_or t k 0 ≡ 0

pub held : (t : List ℕ) → cells_hold t ≡ true → Cells t
unfolding cells_hold
held t h =
    let both = (and-eq-true_iff (cell_count t && no_surrogate t) (empty_rows t)).0 h in
    let front = (and-eq-true_iff (cell_count t) (no_surrogate t)).0 both.0 in
    let rest = (and-eq-true_iff (all zero? (rows 9 15 t)) (all zero? (rows 85 94 t))).0 both.1 in
    record {
      long = eqb-true (length t) 8836 front.0;
      no_surrogate = λ k. scalar_range (get_or t k 0) (at_any scalar refl t front.1 k);
      rows_9_15 = λ k. row_zero 752 658 t rest.0 k;
      rows_85_94 = λ k. row_zero 7896 940 t rest.1 k;
    }
