-- Counts of bytes and of numbers: no characters, a character n times, issues. Assumes nothing.
use Prim.Native.Nat.{ℕ, zero, suc, ◌*◌, ◌≤◌}
use mathlib.Core.Path.{◌≡◌, refl, sym, ap, ◌∙◌}
use mathlib.Core.List.{List, [], ◌∷◌, ◌++◌, append-nil, append_assoc}
use native.Mathlib.Nat.{mul-zero, mul-suc}
use native.Mathlib.Omega.{arith}
use lib.ListN.{length, replicate, length-append, length-replicate}
use Rattle.utf8.specs.Utf8.{utf8, utf8s}
use Rattle.utf8.proofs.Bytes.{utf8s_least, utf8s_most}
use Rattle.issues.specs.Issue.{Issue, numbers, issue_numbers, issues_numbers}

-- a text of no bytes has no characters
pub utf8s_none : (a : List ℕ) → length (utf8s a) ≡ 0 → a ≡ []
utf8s_none [] h = refl
utf8s_none (c ∷ a) h = absurd (omega (arith, h, utf8s_least (c ∷ a)))

-- a character n times
pub length_times : (n c : ℕ) → length (utf8s (replicate n c)) ≡ length (utf8 c) * n
unfolding utf8s
length_times zero c = sym (mul-zero (length (utf8 c)))
length_times (suc n) c = omega (arith, length-append (utf8 c) (utf8s (replicate n c)), length_times n c, mul-suc (length (utf8 c)) n)

pub width_times : {w : ℕ} (n c : ℕ) → w ≡ length (utf8 c) → w * n ≡ length (utf8s (replicate n c))
width_times n c e = ap (λ (k : ℕ). k * n) e ∙ sym (length_times n c)

pub times_most : (n c : ℕ) → length (utf8s (replicate n c)) ≤ 4 * n
times_most n c = omega (arith, utf8s_most (replicate n c), length-replicate n c)

pub times_least : (n c : ℕ) → n ≤ length (utf8s (replicate n c))
times_least n c = omega (arith, utf8s_least (replicate n c), length-replicate n c)

pub times_more : (n c : ℕ) → utf8s (replicate (suc n) c) ≡ utf8s (replicate n c) ++ utf8 c
unfolding utf8s
times_more zero c = append-nil (utf8 c)
times_more (suc n) c = ap (λ (r : List ℕ). utf8 c ++ r) (times_more n c) ∙ sym (append_assoc (utf8 c) (utf8s (replicate n c)) (utf8 c))

-- ---- issues

pub numbers_end : (a : List Issue) (i : Issue) → issues_numbers (a ++ (i ∷ [])) ≡ issues_numbers a ++ issue_numbers i
unfolding issues_numbers
numbers_end [] i = refl
numbers_end (x ∷ a) i = ap (λ (r : List ℕ). issue_numbers x ++ r) (numbers_end a i)

pub length_numbers : (a : List Issue) → length (issues_numbers a) ≡ length a * numbers
unfolding issues_numbers
length_numbers [] = refl
length_numbers (x ∷ a) = omega (arith, length_numbers a)
