-- Laws of `padded` and `cleared`. Assumes nothing.
use Prim.Native.Nat.{ℕ, zero, suc, ◌+◌, ◌-◌, ◌≤◌, ◌<◌}
use mathlib.Core.Path.{◌≡◌, refl, ap, ap₂, ◌∙◌}
use mathlib.Core.List.{List, [], ◌∷◌, ◌++◌}
use native.Mathlib.Nat.{not-suc-le-zero}
use native.Mathlib.Omega.{arith}
use lib.ListN.{length, take, drop, set, replicate}
use lib.Seq.{sets}
use Rattle.std.proofs.lemmas.Grind.{common_steps}
use borrow.Rule.Slice.PartMut.{put_mid}
use Rattle.questions.specs.Buffer.{padded, cleared_to, cleared}

pub length_padded : (n : ℕ) (vs : List ℕ) → length (padded n vs) ≡ n
unfolding padded
length_padded zero vs = refl
length_padded (suc n) [] = ap suc (length_padded n [])
length_padded (suc n) (v ∷ vs) = ap suc (length_padded n vs)

pub length_cleared : (l : List ℕ) (j : ℕ) → length (cleared l j) ≡ length l
unfolding cleared_to
length_cleared [] j = refl
length_cleared (x ∷ l) zero = ap suc (length_cleared l zero)
length_cleared (x ∷ l) (suc j) = ap suc (length_cleared l j)

-- the result stands at the front
pub take_padded : (n : ℕ) (vs : List ℕ) → length vs ≤ n → take (length vs) (padded n vs) ≡ vs
unfolding padded
take_padded n [] h = refl
take_padded zero (v ∷ vs) h = absurd (not-suc-le-zero h)
take_padded (suc n) (v ∷ vs) h = ap (λ (r : List ℕ). v ∷ r) (take_padded n vs (omega arith))

-- a buffer with no result is all zero
pub padded_none : (n : ℕ) → padded n [] ≡ replicate n 0
unfolding padded
padded_none zero = refl
padded_none (suc n) = ap (λ (r : List ℕ). 0 ∷ r) (padded_none n)

-- what `clear` writes: n times z from place j on
all_of : {X : Type 0} (z : X) (l : List X) → cleared_to z l 0 ≡ replicate (length l) z
unfolding cleared_to
all_of z [] = refl
all_of z (x ∷ l) = ap (λ r. z ∷ r) (all_of z l)

cleared_part : {X : Type 0} (z : X) (l : List X) (j n : ℕ) → j + n ≡ length l → cleared_to z l j ≡ take j l ++ replicate n z
unfolding cleared_to
cleared_part z [] j n h = rw (let e : n ≡ 0 = omega (arith, h) in e, let e : j ≡ 0 = omega (arith, h) in e) refl
cleared_part z (x ∷ l) zero n h = all_of z (x ∷ l) ∙ ap (λ k. replicate k z) (let e : length (x ∷ l) ≡ n = omega (arith, h) in e)
cleared_part z (x ∷ l) (suc j) n h = ap (λ r. x ∷ r) (cleared_part z l j n (omega (arith, h)))

pub filled : {X : Type 0} (z w : X) (l part : List X) (j : ℕ) → j < length l → w ≡ z → part ≡ replicate (length (take (length l - j) (drop j l))) w
    → put_mid j (length l - j) l part ≡ cleared_to z l j
filled z w l part j h ew e =
    let n : length (take (length l - j) (drop j l)) ≡ length l - j = grind (arith, common_steps) in
    let p : part ≡ replicate (length l - j) z = e ∙ ap₂ (λ k v. replicate k v) n ew in
    rw p (grind (arith, common_steps, cleared_part z l j (length l - j)))

-- nothing is left to write
pub clear_end : {X : Type 0} (z : X) (l : List X) (j : ℕ) → length l ≤ j → cleared_to z l j ≡ l
unfolding cleared_to
clear_end z [] j h = refl
clear_end z (x ∷ l) zero h = absurd (not-suc-le-zero h)
clear_end z (x ∷ l) (suc j) h = ap (λ r. x ∷ r) (clear_end z l j (omega arith))

-- a refusal
pub clear_all : (l : List ℕ) → cleared l 0 ≡ padded (length l) []
unfolding cleared_to padded
clear_all [] = refl
clear_all (x ∷ l) = ap (λ (r : List ℕ). 0 ∷ r) (clear_all l)

sets_cons : (vs l : List ℕ) (y i : ℕ) → sets (y ∷ l) (suc i) vs ≡ y ∷ sets l i vs
sets_cons [] l y i = refl
sets_cons (a ∷ vs) l y i = sets_cons vs (set l i a) y (suc i)

-- an acceptance: what was written from the start, and zeros past it
pub clear_past : (l vs : List ℕ) → length vs ≤ length l → cleared (sets l 0 vs) (length vs) ≡ padded (length l) vs
unfolding cleared_to padded
clear_past l [] h = clear_all l
clear_past [] (v ∷ vs) h = absurd (not-suc-le-zero h)
clear_past (y ∷ l) (v ∷ vs) h =
    ap (λ (r : List ℕ). cleared r (suc (length vs))) (sets_cons vs l v 0)
    ∙ ap (λ (r : List ℕ). v ∷ r) (clear_past l vs (omega arith))
