-- UTF-8 as the Unicode Standard, chapter 3, defines it: Table 3-6, the distribution of a scalar's bits over its bytes, and
-- Table 3-7, the well-formed byte sequences. A text is the list of its bytes, and a scalar is a number.
use Rattle.std.specs.Prelude.{ℕ, zero, suc, ◌+◌, ◌-◌, ◌*◌, ◌/◌, ◌%◌, ◌≡◌, Bool, true, cond, ◌&&◌, ◌||◌, List, [], ◌∷◌, ◌++◌, eqb, ltb, leb, length, Option, Some, None}
use Rattle.std.proofs.lemmas.List.Edits.{sets}
use Rattle.utf8.specs.declared.Sequence.{Sequence}
use Rattle.utf8.specs.declared.Sequence.TheVariants.{Scalar, Fault, End}

-- D76: a Unicode scalar value is 0 to D7FF or E000 to 10FFFF, Rust's `char`
unfoldable pub is_scalar : ℕ → Bool
is_scalar c = ltb c 0xD800 || (leb 0xE000 c && ltb c 0x110000)

-- every number of a list is one
unfoldable pub are_scalars : List ℕ → Bool
unfolding is_scalar
are_scalars [] = true
are_scalars (c ∷ cs) = is_scalar c && are_scalars cs

-- ---- Table 3-6

-- six bits of a scalar in a byte after the first: 10xxxxxx
abbrev pub trailing : ℕ → ℕ
trailing x = 0x80 + x % 64

-- A scalar's bytes. It is a function of every number: from 10000 on a number takes the last row, whose first byte has room for
-- three bits, so that of its bits those above the twenty-first are left out. A scalar has none there.
unfoldable pub utf8 : ℕ → List ℕ
utf8 c =
    cond (ltb c 0x80) (c ∷ [])
    (cond (ltb c 0x800) ((0xC0 + c / 64) ∷ trailing c ∷ [])
    (cond (ltb c 0x10000) ((0xE0 + c / 4096) ∷ trailing (c / 64) ∷ trailing c ∷ [])
    ((0xF0 + c / 262144 % 8) ∷ trailing (c / 4096) ∷ trailing (c / 64) ∷ trailing c ∷ [])))

-- the bytes of a text
unfoldable pub utf8s : List ℕ → List ℕ
unfolding utf8
utf8s [] = []
utf8s (c ∷ cs) = utf8 c ++ utf8s cs

-- ---- Table 3-7

-- the second byte after the first byte a is from `low a` to `high a`
unfoldable pub low : ℕ → ℕ
low a = cond (eqb a 0xE0) 0xA0 (cond (eqb a 0xF0) 0x90 0x80)

unfoldable pub high : ℕ → ℕ
high a = cond (eqb a 0xED) 0x9F (cond (eqb a 0xF4) 0x8F 0xBF)

unfoldable pub is_second : ℕ → ℕ → Bool
unfolding low high
is_second a b = leb (low a) b && leb b (high a)

-- the third and the fourth byte: from 80 to BF
unfoldable pub is_trailing : ℕ → Bool
is_trailing b = leb 0x80 b && leb b 0xBF

-- a sequence of two, of three and of four bytes, whose first byte is a, and l what follows it; the scalar by Table 3-6
unfoldable pub two : ℕ → List ℕ → Sequence
unfolding is_second
two a [] = Fault
two a (b ∷ l) = cond (is_second a b) (Scalar (a % 32 * 64 + b % 64) 2) Fault

unfoldable pub three : ℕ → List ℕ → Sequence
unfolding is_second is_trailing
three a [] = Fault
three a (b ∷ []) = Fault
three a (b ∷ (d ∷ l)) = cond (is_second a b && is_trailing d) (Scalar (a % 16 * 4096 + b % 64 * 64 + d % 64) 3) Fault

unfoldable pub four : ℕ → List ℕ → Sequence
unfolding is_second is_trailing
four a [] = Fault
four a (b ∷ []) = Fault
four a (b ∷ (d ∷ [])) = Fault
four a (b ∷ (d ∷ (e ∷ l))) =
    cond (is_second a b && (is_trailing d && is_trailing e)) (Scalar (a % 8 * 262144 + b % 64 * 4096 + d % 64 * 64 + e % 64) 4) Fault

-- what stands at the head of a list: a well-formed sequence's scalar and its length, a fault, or the end
unfoldable pub sequence : List ℕ → Sequence
unfolding two three four
sequence [] = End
sequence (a ∷ l) =
    cond (ltb a 0x80) (Scalar a 1)
    (cond (ltb a 0xC2) Fault
    (cond (ltb a 0xE0) (two a l)
    (cond (ltb a 0xF0) (three a l)
    (cond (ltb a 0xF5) (four a l) Fault))))

-- its scalar, if there is one
abbrev pub scalar_of : Sequence → Option ℕ
scalar_of (Scalar c n) = Some c
scalar_of Fault = None
scalar_of End = None

-- ---- a text

-- the first fault of a list whose first byte stands at the place i, k bytes being passed over
unfoldable pub fault_from : ℕ → ℕ → List ℕ → Option ℕ
unfolding sequence
fault_from i k [] = None
fault_from i (suc k) (x ∷ xs) = fault_from (i + 1) k xs
fault_from i zero (x ∷ xs) = elim (sequence (x ∷ xs)) [ Scalar c n ↦ fault_from (i + 1) (n - 1) xs | Fault ↦ Some i | End ↦ Some i ]

-- the place where the first ill-formed sequence begins, Rust's `valid_up_to`, if there is one
unfoldable pub first_fault : List ℕ → Option ℕ
unfolding fault_from
first_fault t = fault_from 0 0 t

-- the scalars of a list up to its first fault, k bytes being passed over
unfoldable pub scalars_from : ℕ → List ℕ → List ℕ
unfolding sequence
scalars_from k [] = []
scalars_from (suc k) (x ∷ xs) = scalars_from k xs
scalars_from zero (x ∷ xs) = elim (sequence (x ∷ xs)) [ Scalar c n ↦ c ∷ scalars_from (n - 1) xs | Fault ↦ [] | End ↦ [] ]

-- the scalars of a well-formed text
unfoldable pub scalars : List ℕ → List ℕ
unfolding scalars_from
scalars t = scalars_from 0 t

-- ---- what `put` promises: c's bytes from the place `at` on, as far as they fit, nothing else changed; and their count

pub record PutScalar (before : List ℕ) (at c : ℕ) (after : List ℕ) (r : ℕ) : Type 0 where
  pub bytes : after ≡ sets before at (utf8 c)
  pub count : r ≡ length (utf8 c)
