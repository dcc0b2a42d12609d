-- Zeros behind a list, as `padded` puts them and as a loop tests them. Assumes nothing.
use Prim.Native.Nat.{ℕ, zero, suc, ◌-◌, ◌≤◌}
use mathlib.Core.Path.{◌≡◌, refl, sym, ap, ap₂, ◌∙◌}
use mathlib.Core.Bool.{Bool, true, false, ◌&&◌, and-eq-true_iff}
use lib.Bits.{bit_or}
use lib.Dec.{eqb}
use Rattle.std.specs.List.{fold}
use Rattle.questions.proofs.CellTable.{or_zero}
use mathlib.Core.List.{List, [], ◌∷◌, ◌++◌}
use native.Mathlib.Nat.{not-suc-le-zero, sub-zero, zero-sub, suc-sub-suc}
use native.Mathlib.Omega.{arith}
use borrow.Author.Tests.{eqb-true}
use lib.ListN.{length, take, drop, replicate}
use lib.Seq.{take_all}
use Rattle.lent.proofs.Parts.{lent_rest}
use Rattle.questions.specs.Questions.{all, zero?}
use Rattle.questions.specs.Buffer.{padded}
use Rattle.questions.proofs.Buffers.{padded_none}

-- a list that fits, and zeros
pub padded_zeros : (n : ℕ) (l : List ℕ) → length l ≤ n → padded n l ≡ l ++ replicate (n - length l) 0
unfolding padded
padded_zeros n [] h = padded_none n ∙ ap (λ (k : ℕ). replicate k 0) (sym (sub-zero n))
padded_zeros zero (x ∷ l) h = absurd (not-suc-le-zero h)
padded_zeros (suc n) (x ∷ l) h =
    ap (λ (r : List ℕ). x ∷ r) (padded_zeros n l (omega arith) ∙ ap (λ (k : ℕ). l ++ replicate k 0) (sym (suc-sub-suc n (length l))))

pub zeros_zero : (n : ℕ) → all zero? (replicate n 0) ≡ true
unfolding all
zeros_zero zero = refl
zeros_zero (suc n) = zeros_zero n

and_true : (a : Bool) → a && true ≡ a
and_true true = refl
and_true false = refl

and_assoc : (a b c : Bool) → a && (b && c) ≡ a && b && c
and_assoc true b c = refl
and_assoc false b c = refl

-- bits that are or-ed are zero where all are
pub bits_zero : (b : ℕ) (l : List ℕ) → eqb (fold bit_or b l) 0 ≡ eqb b 0 && all zero? l
unfolding all
bits_zero b [] = sym (and_true (eqb b 0))
bits_zero b (x ∷ l) = bits_zero (bit_or b x) l ∙ (ap (λ (t : Bool). t && all zero? l) (or_zero b x) ∙ sym (and_assoc (eqb b 0) (zero? x) (all zero? l)))

pub zero_zeros : (l : List ℕ) → all zero? l ≡ true → l ≡ replicate (length l) 0
unfolding all
zero_zeros [] e = refl
zero_zeros (x ∷ l) e =
    let both = (and-eq-true_iff (zero? x) (all zero? l)).0 e in
    ap₂ {A = ℕ} {B = List ℕ} {C = List ℕ} (λ (y : ℕ) (r : List ℕ). y ∷ r) (eqb-true x 0 both.0) (zero_zeros l both.1)

-- the first n of m, and zeros, are the first m where the rest of these is zero
pub padded_take : (m n : ℕ) (l : List ℕ) → m ≤ length l → n ≤ m → all zero? (drop n (take m l)) ≡ true → padded m (take n l) ≡ take m l
unfolding padded all
padded_take zero n l h k e = refl
padded_take (suc m) n [] h k e = absurd (not-suc-le-zero h)
padded_take (suc m) zero (x ∷ l) h k e =
    let both = (and-eq-true_iff (zero? x) (all zero? (take m l))).0 e in
    ap₂ {A = ℕ} {B = List ℕ} {C = List ℕ} (λ (y : ℕ) (r : List ℕ). y ∷ r) (sym (eqb-true x 0 both.0)) (padded_take m zero l (omega arith) (omega arith) both.1)
padded_take (suc m) (suc n) (x ∷ l) h k e = ap (λ (r : List ℕ). x ∷ r) (padded_take m n l (omega arith) (omega arith) e)

-- behind a list that fits, what is padded is zero
pub padded_behind : (m : ℕ) (l : List ℕ) → length l ≤ m → all zero? (drop (length l) (padded m l)) ≡ true
unfolding padded all
padded_behind m [] h = rw padded_none (zeros_zero m)
padded_behind zero (x ∷ l) h = absurd (not-suc-le-zero h)
padded_behind (suc m) (x ∷ l) h = padded_behind m l (omega arith)

-- the rest of a place, as it is lent
pub behind_part : (p : List ℕ) (k : ℕ) → length p ≡ 260 → all zero? (take (length p - k) (drop k p)) ≡ all zero? (drop k (take 260 p))
behind_part p k h = ap (all zero?) (lent_rest p k ∙ ap (drop k) (sym (take_all 260 p (omega arith))))

pub drop_zeros : (k n : ℕ) → drop k (replicate {A = ℕ} n 0) ≡ replicate (n - k) 0
drop_zeros zero n = ap (λ (m : ℕ). replicate m 0) (sym (sub-zero n))
drop_zeros (suc k) zero = ap (λ (m : ℕ). replicate {A = ℕ} m 0) (sym (zero-sub (suc k)))
drop_zeros (suc k) (suc n) = drop_zeros k n ∙ ap (λ (m : ℕ). replicate m 0) (sym (suc-sub-suc n k))
