-- The sequences and size controls that are written, and how long they are. Assumes nothing.
use mathlib.Core.Path.{◌≡◌, refl, sym, ap, ◌∙◌}
use mathlib.Core.Bool.{Bool, true, false, cond, ◌||◌}
use mathlib.Core.List.{List, [], ◌∷◌}
use Prim.Native.Nat.{ℕ, zero, suc, ◌+◌, ◌≤◌, ◌<◌}
use native.Mathlib.Numerals.{add-one}
use native.Mathlib.Omega.{arith}
use lib.Dec.{eqb}
use lib.ListN.{length, take, get_or, length-take}
use lib.Seq.{take-suc, take_all}
use Rattle.control.specs.Codes.{ESC, NSZ}
use Rattle.lent.specs.Put.{Put}
use Rattle.lent.proofs.Putting.{put_then, put_as}
use Rattle.sets.specs.Sets.{shift_bytes, designation, sequence, bytes_per_char, is_drcs_form, final_byte}
use Rattle.sets.specs.declared.Shift.{Shift}
use Rattle.sets.specs.declared.Shift.TheVariants.{Ls0, Ls1, Ls2, Ls3, Ls1r, Ls2r, Ls3r, Ss2, Ss3}
use Rattle.encode_states.specs.Packed.{set_of}
use Rattle.encode_states.specs.Written.{size_control, invocation, half}

-- a sequence, byte by byte
pub taken_length : (k : ℕ) (l : List ℕ) → length (take k l) ≤ k
taken_length k l = omega (arith, length-take k l)

pub further : (q : List ℕ) {l m n : List ℕ} {i j k r : ℕ} → k < length q → Put l i (take k q) m j → Put m j (get_or q k 0 ∷ []) n r → Put l i (take (k + 1) q) n r
further q {k = k} h p s = put_as (ap (λ (z : ℕ). take z q) (add-one k) ∙ take-suc q k 0 h) (put_then p s)

pub ended : (q : List ℕ) {l m : List ℕ} {i j k : ℕ} → length q ≤ k → Put l i (take k q) m j → Put l i q m j
ended q {k = k} h p = put_as (sym (take_all k q h)) p

-- how long they are
pub size_length : (z : ℕ) → length (size_control z) ≤ 1
unfolding size_control
size_length zero = omega arith
size_length (suc zero) = omega arith
size_length (suc (suc z)) = omega arith

sequence_length : (two drcs : Bool) (n f : ℕ) → length (sequence two drcs n f) ≤ 5
unfolding sequence
sequence_length false false n f = omega arith
sequence_length false true n f = omega arith
sequence_length true false n f = go (eqb n 0)
  where
    go : (b : Bool) → length (cond b (ESC ∷ 0x24 ∷ f ∷ []) (ESC ∷ 0x24 ∷ (0x28 + n) ∷ f ∷ [])) ≤ 5
    go true = omega arith
    go false = omega arith
sequence_length true true n f = omega arith

pub designation_length : (s n : ℕ) → length (designation s n) ≤ 5
unfolding designation
designation_length s n = sequence_length (eqb (bytes_per_char s) 2) (is_drcs_form s) n (final_byte s)

pub designated_length : (b : Bool) (s n : ℕ) → length (cond b (designation s n) []) ≤ 5
designated_length true s n = designation_length s n
designated_length false s n = omega arith

pub shift_length : (s : Shift) → length (shift_bytes s) ≤ 2
shift_length Ls0 = omega arith
shift_length Ls1 = omega arith
shift_length Ls2 = omega arith
shift_length Ls3 = omega arith
shift_length Ls1r = omega arith
shift_length Ls2r = omega arith
shift_length Ls3r = omega arith
shift_length Ss2 = omega arith
shift_length Ss3 = omega arith

pub invocation_length : (v e : ℕ) → length (invocation v e) ≤ 2
unfolding invocation
invocation_length zero e = omega arith
invocation_length (suc zero) e = omega arith
invocation_length (suc (suc zero)) zero = omega arith
invocation_length (suc (suc zero)) (suc zero) = omega arith
invocation_length (suc (suc zero)) (suc (suc zero)) = omega arith
invocation_length (suc (suc zero)) (suc (suc (suc e))) = omega arith
invocation_length (suc (suc (suc zero))) zero = omega arith
invocation_length (suc (suc (suc zero))) (suc zero) = omega arith
invocation_length (suc (suc (suc zero))) (suc (suc zero)) = omega arith
invocation_length (suc (suc (suc zero))) (suc (suc (suc e))) = omega arith
invocation_length (suc (suc (suc (suc v)))) zero = omega arith
invocation_length (suc (suc (suc (suc v)))) (suc zero) = omega arith
invocation_length (suc (suc (suc (suc v)))) (suc (suc zero)) = omega arith
invocation_length (suc (suc (suc (suc v)))) (suc (suc (suc e))) = omega arith

-- the last of seven codes
pub macro_code : (x : ℕ) → x < 7 → (x ≡ 0 → ⊥) → (x ≡ 1 → ⊥) → (x ≡ 2 → ⊥) → (x ≡ 3 → ⊥) → (x ≡ 4 → ⊥) → (x ≡ 5 → ⊥) → 15 ≡ set_of x
unfolding set_of
macro_code zero h a b c d e f = absurd (a refl)
macro_code (suc zero) h a b c d e f = absurd (b refl)
macro_code (suc (suc zero)) h a b c d e f = absurd (c refl)
macro_code (suc (suc (suc zero))) h a b c d e f = absurd (d refl)
macro_code (suc (suc (suc (suc zero)))) h a b c d e f = absurd (e refl)
macro_code (suc (suc (suc (suc (suc zero))))) h a b c d e f = absurd (f refl)
macro_code (suc (suc (suc (suc (suc (suc zero)))))) h a b c d e f = refl
macro_code (suc (suc (suc (suc (suc (suc (suc x))))))) h a b c d e f = absurd (omega arith)

pub half_most : (v : ℕ) → half v ≤ 128
unfolding half
half_most v = go (eqb v 1 || eqb v 3)
  where
    go : (b : Bool) → cond b 128 0 ≤ 128
    go true = omega arith
    go false = omega arith

-- no shift where it stands invoked
pub invoked : (v e : ℕ) → v < 2 → invocation v e ≡ []
unfolding invocation
invoked zero e h = refl
invoked (suc zero) e h = refl
invoked (suc (suc v)) e h = absurd (omega arith)

pub other_size : (z : ℕ) → (z ≡ 0 → ⊥) → (z ≡ 1 → ⊥) → size_control z ≡ NSZ ∷ []
unfolding size_control
other_size zero f g = absurd (f refl)
other_size (suc zero) f g = absurd (g refl)
other_size (suc (suc z)) f g = refl

pub single_of : (v e : ℕ) → 2 ≤ v → (v ≡ 2 → ⊥) → (v ≡ 3 → ⊥) → invocation 4 e ≡ invocation v e
unfolding invocation
single_of zero e h f g = absurd (omega arith)
single_of (suc zero) e h f g = absurd (omega arith)
single_of (suc (suc zero)) e h f g = absurd (f refl)
single_of (suc (suc (suc zero))) e h f g = absurd (g refl)
single_of (suc (suc (suc (suc v)))) e h f g = refl

pub last_gl : (e : ℕ) → (e ≡ 0 → ⊥) → (e ≡ 1 → ⊥) → (e ≡ 2 → ⊥) → shift_bytes Ls3 ≡ invocation 2 e
unfolding invocation
last_gl zero f g h = absurd (f refl)
last_gl (suc zero) f g h = absurd (g refl)
last_gl (suc (suc zero)) f g h = absurd (h refl)
last_gl (suc (suc (suc e))) f g h = refl

pub last_gr : (e : ℕ) → e < 4 → (e ≡ 2 → ⊥) → (e ≡ 3 → ⊥) → shift_bytes Ls1r ≡ invocation 3 e
unfolding invocation
last_gr zero l f g = refl
last_gr (suc zero) l f g = refl
last_gr (suc (suc zero)) l f g = absurd (f refl)
last_gr (suc (suc (suc zero))) l f g = absurd (g refl)
last_gr (suc (suc (suc (suc e)))) l f g = absurd (omega arith)

pub last_single : (e : ℕ) → e < 4 → (e ≡ 3 → ⊥) → shift_bytes Ss2 ≡ invocation 4 e
unfolding invocation
last_single zero l f = refl
last_single (suc zero) l f = refl
last_single (suc (suc zero)) l f = refl
last_single (suc (suc (suc zero))) l f = absurd (f refl)
last_single (suc (suc (suc (suc e)))) l f = absurd (omega arith)
