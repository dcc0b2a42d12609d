-- A text at its head, byte by byte, as the code reads it, and bytes that were copied into one. Assumes nothing.
use mathlib.Core.Path.{◌≡◌, refl, sym, ap, ◌∙◌}
use mathlib.Core.Bool.{Bool, true, false, cond, ◌&&◌}
use mathlib.Core.List.{List, [], ◌∷◌, append_assoc}
use Prim.Native.Nat.{ℕ, ◌+◌, ◌-◌, ◌*◌, ◌%◌, ◌≤◌, ◌<◌}
use native.Mathlib.Omega.{arith}
use lib.ListN.{length, get_or, take, drop, take-append-drop}
use lib.Seq.{sets, sets-eq, drop-drop, length-take-le}
use borrow.Rule.Slice.PartMut.{put_mid}
use Rattle.std.proofs.lemmas.List.{take_rest}
use Rattle.lent.proofs.Stores.{sets_cut}
use Rattle.std.specs.Prelude.{Some, None}
use Rattle.utf8.specs.declared.Sequence.TheVariants.{Scalar, Fault}
use Rattle.utf8.specs.Utf8.{is_second, is_trailing, two, three, four, sequence, scalar_of}

-- a text with a first byte, as the code takes it apart
pub headed : (l : List ℕ) → 1 ≤ length l → sequence (get_or l 0 0 ∷ take (length l - 1) (drop 1 l)) ≡ sequence l
headed [] h = absurd (omega arith)
headed (a ∷ l) h = ap (λ (r : List ℕ). sequence (a ∷ r)) (take_rest (a ∷ l) 1)

pub empty : (l : List ℕ) → length l < 1 → None ≡ scalar_of (sequence l)
unfolding sequence
empty [] h = refl
empty (a ∷ l) h = absurd (omega arith)

-- bytes that were copied over others of a buffer, from the place i on: where all fit, and where the first k do
pub copied : (l ys vs : List ℕ) (i k : ℕ) → ys ≡ vs → k ≡ length vs → i + k ≤ length l → put_mid i k l ys ≡ sets l i vs
copied l ys vs i k e d h =
    let f : i + length vs ≤ length l = omega arith in
    rw (e, d, drop-drop) (sym (sets-eq vs l i f ∙ append_assoc (take i l) vs (drop (i + length vs) l)))

pub copied_part : (l ys vs : List ℕ) (i k : ℕ) → ys ≡ take k vs → k ≤ length vs → i + k ≡ length l → put_mid i k l ys ≡ sets l i vs
copied_part l ys vs i k e d h =
    let f : k ≡ length (take k vs) = sym (length-take-le k vs d) in
    sets_cut (take k vs) (drop k vs) l (put_mid i k l ys) i (omega (arith, f)) (copied l ys (take k vs) i k e f (omega arith))
    ∙ ap (sets l i) (take-append-drop k vs)

-- too few bytes
pub short2 : (a : ℕ) (l : List ℕ) → length l < 1 → None ≡ scalar_of (two a l)
unfolding two
short2 a [] h = refl
short2 a (b ∷ l) h = absurd (omega arith)

pub short3 : (a : ℕ) (l : List ℕ) → length l < 2 → None ≡ scalar_of (three a l)
unfolding three
short3 a [] h = refl
short3 a (b ∷ []) h = refl
short3 a (b ∷ (d ∷ l)) h = absurd (omega arith)

pub short4 : (a : ℕ) (l : List ℕ) → length l < 3 → None ≡ scalar_of (four a l)
unfolding four
short4 a [] h = refl
short4 a (b ∷ []) h = refl
short4 a (b ∷ (d ∷ [])) h = refl
short4 a (b ∷ (d ∷ (e ∷ l))) h = absurd (omega arith)

by : (u : Bool) (c n : ℕ) → (cond u (Some c) None) ≡ scalar_of (cond u (Scalar c n) Fault)
by true c n = refl
by false c n = refl

-- enough bytes, and what the tests of them answered
pub whole2 : (a : ℕ) (l : List ℕ) (u : Bool) → 1 ≤ length l → u ≡ is_second a (get_or l 0 0)
    → (cond u (Some (a % 32 * 64 + get_or l 0 0 % 64)) None) ≡ scalar_of (two a l)
unfolding two
whole2 a [] u h p = absurd (omega arith)
whole2 a (b ∷ l) u h p = rw (← p) (by u _ 2)

pub whole3 : (a : ℕ) (l : List ℕ) (u v : Bool) → 2 ≤ length l → u ≡ is_second a (get_or l 0 0) → v ≡ is_trailing (get_or l 1 0)
    → (cond (u && v) (Some (a % 16 * 4096 + get_or l 0 0 % 64 * 64 + get_or l 1 0 % 64)) None) ≡ scalar_of (three a l)
unfolding three
whole3 a [] u v h p q = absurd (omega arith)
whole3 a (b ∷ []) u v h p q = absurd (omega arith)
whole3 a (b ∷ (d ∷ l)) u v h p q = rw (← p, ← q) (by (u && v) _ 3)

pub whole4 : (a : ℕ) (l : List ℕ) (u v w : Bool) → 3 ≤ length l → u ≡ is_second a (get_or l 0 0) → v ≡ is_trailing (get_or l 1 0) → w ≡ is_trailing (get_or l 2 0)
    → (cond (u && (v && w)) (Some (a % 8 * 262144 + get_or l 0 0 % 64 * 4096 + get_or l 1 0 % 64 * 64 + get_or l 2 0 % 64)) None) ≡ scalar_of (four a l)
unfolding four
whole4 a [] u v w h p q r = absurd (omega arith)
whole4 a (b ∷ []) u v w h p q r = absurd (omega arith)
whole4 a (b ∷ (d ∷ [])) u v w h p q r = absurd (omega arith)
whole4 a (b ∷ (d ∷ (e ∷ l))) u v w h p q r = rw (← p, ← q, ← r) (by (u && (v && w)) _ 4)
