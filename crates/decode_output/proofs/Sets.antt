-- Laws of `sets l i vs`, the list l with vs laid over it from the place i on, as far as they fit. Assumes nothing.
use Prim.Native.Nat.{ℕ, zero, suc, ◌+◌, ◌-◌, ◌≤◌, ◌<◌, min}
use mathlib.Core.Path.{◌≡◌, refl, sym, ap, ◌∙◌}
use mathlib.Core.List.{List, [], ◌∷◌, ◌++◌, append-nil}
use native.Mathlib.Nat.{zero-add, not-suc-le-zero, ne_of_gt}
use native.Mathlib.Omega.{arith}
use lib.ListN.{length, take, drop, set, length-append, length-drop, drop_of_length-le}
use native.Mathlib.Decide.{ℕ_discrete}
use lib.Seq.{sets, length-sets, sets-eq, paste, length-take-le, take-add, set_comm, take_all, take-append_seam, drop-append_seam}
use Rattle.lent.proofs.Stores.{sets_append, sets_out, sets_cut}

-- b behind what was written
pub sets_end : (a b l : List ℕ) {t : List ℕ} {n : ℕ} → t ≡ sets l 0 a → n ≡ length a → sets t n b ≡ sets l 0 (a ++ b)
sets_end a b l p q = rw (p, q, sets_append a b l 0) (rw zero-add)

-- past the end nothing changes
pub sets_past : (a l z w : List ℕ) → length l ≤ length a → sets l 0 (a ++ z) ≡ sets l 0 (a ++ w)
sets_past a l z w h =
    let cut : (x : List ℕ) → sets l 0 (a ++ x) ≡ sets l 0 a =
    λ x. sets_append a x l 0 ∙ sets_out x (sets l 0 a) (0 + length a) (omega (arith, length-sets l 0 a)) in
    cut z ∙ sym (cut w)

pub set_sets : (vs l : List ℕ) (i j x : ℕ) → j < i → set (sets l i vs) j x ≡ sets (set l j x) i vs
set_sets [] l i j x h = refl
set_sets (v ∷ vs) l i j x h = set_sets vs (set l i v) (suc i) j x (omega arith) ∙ ap (λ (k : List ℕ). sets k (suc i) vs) (set_comm l i j v x (ne_of_gt h))

pub sets_comm : (us vs l : List ℕ) (i j : ℕ) → j + length us ≤ i → sets (sets l i vs) j us ≡ sets (sets l j us) i vs
sets_comm [] vs l i j h = refl
sets_comm (u ∷ us) vs l i j h = ap (λ (k : List ℕ). sets k (suc j) us) (set_sets vs l i j u (omega arith)) ∙ sets_comm us vs (set l j u) i (suc j) (omega arith)

-- ---- by the first element

pub sets_nil : (vs : List ℕ) (i : ℕ) → sets [] i vs ≡ []
sets_nil [] i = refl
sets_nil (v ∷ vs) i = sets_nil vs (suc i)

pub sets_suc : (vs l : List ℕ) (y i : ℕ) → sets (y ∷ l) (suc i) vs ≡ y ∷ sets l i vs
sets_suc [] l y i = refl
sets_suc (v ∷ vs) l y i = sets_suc vs (set l i v) y (suc i)

-- over a list that is at least as long as a
pub sets_join : (a l z : List ℕ) → length a ≤ length l → sets l 0 (a ++ z) ≡ a ++ sets (drop (length a) l) 0 z
sets_join [] l z h = refl
sets_join (v ∷ a) [] z h = absurd (not-suc-le-zero h)
sets_join (v ∷ a) (y ∷ l) z h = sets_suc (a ++ z) l v 0 ∙ ap (λ (r : List ℕ). v ∷ r) (sets_join a l z (omega arith))

-- vs hides what was written before it
sets_hide : (l b vs : List ℕ) → length (take (length l) b) ≤ length vs → sets (sets l 0 b) 0 vs ≡ sets l 0 vs
sets_hide [] b vs h = rw (sets_nil b 0)
sets_hide (y ∷ l) [] vs h = refl
sets_hide (y ∷ l) (x ∷ b) [] h = absurd (not-suc-le-zero h)
sets_hide (y ∷ l) (x ∷ b) (v ∷ vs) h =
    rw (sets_suc b l x 0, sets_suc vs (sets l 0 b) v 0, sets_suc vs l v 0) (ap (λ (r : List ℕ). v ∷ r) (sets_hide l b vs (omega arith)))

-- only what fits counts
sets_fit : (l u b : List ℕ) (n : ℕ) → length l ≤ n → sets l 0 (u ++ take n b) ≡ sets l 0 (u ++ b)
sets_fit [] u b n h = sets_nil (u ++ take n b) 0 ∙ sym (sets_nil (u ++ b) 0)
sets_fit (y ∷ l) [] [] zero h = refl
sets_fit (y ∷ l) [] (x ∷ b) zero h = absurd (not-suc-le-zero h)
sets_fit (y ∷ l) [] [] (suc n) h = refl
sets_fit (y ∷ l) [] (x ∷ b) (suc n) h = sets_suc (take n b) l x 0 ∙ ap (λ (r : List ℕ). x ∷ r) (sets_fit l [] b n (omega arith)) ∙ sym (sets_suc b l x 0)
sets_fit (y ∷ l) (v ∷ u) b n h = sets_suc (u ++ take n b) l v 0 ∙ ap (λ (r : List ℕ). v ∷ r) (sets_fit l u b n (omega arith)) ∙ sym (sets_suc (u ++ b) l v 0)

take_sets : (l b : List ℕ) → take (length b) (sets l 0 b) ≡ take (length l) b
take_sets [] [] = refl
take_sets [] (x ∷ b) = ap (take (suc (length b))) (sets_nil (x ∷ b) 0)
take_sets (y ∷ l) [] = refl
take_sets (y ∷ l) (x ∷ b) = ap (take (suc (length b))) (sets_suc b l x 0) ∙ ap (λ (r : List ℕ). x ∷ r) (take_sets l b)

-- a list that begins with b: b is moved up, and u written before it
pub moved_up : (l u b : List ℕ) → sets (sets (sets l 0 b) (length u) (take (length b) (sets l 0 b))) 0 u ≡ sets l 0 (u ++ b)
moved_up l u b =
    let w = take (length l) b in
    let e : 0 + length u ≡ length u = zero-add (length u) in
    ap (λ (x : List ℕ). sets (sets (sets l 0 b) (length u) x) 0 u) (take_sets l b)
    ∙ sets_comm u w (sets l 0 b) (length u) 0 (omega arith)
    ∙ ap (λ (k : ℕ). sets (sets (sets l 0 b) 0 u) k w) (sym e)
    ∙ sym (sets_append u w (sets l 0 b) 0)
    ∙ sets_hide l b (u ++ w) (omega (arith, length-append u w))
    ∙ sets_fit l u b (length l) (omega arith)

-- the same in the part of a text from the end of a on
pub moved_part : (l a b u : List ℕ) {t p ys : List ℕ} {n m d : ℕ} → n ≡ length a → m ≡ length b → d ≡ length u → t ≡ sets l 0 (a ++ b) → n ≤ length t
    → p ≡ take (length t - n) (drop n t) → ys ≡ sets (sets p d (take m p)) 0 u
    → take n t ++ (ys ++ drop (length t - n) (drop n t)) ≡ sets l 0 (a ++ (u ++ b))
moved_part l a b u {t} {p} {ys} {n} {m} {d} en em ed et h ep ey =
    let g : length a ≤ length l = omega (arith, ap length et, length-sets l 0 (a ++ b)) in
    let q = drop (length a) l in
    let j : t ≡ a ++ sets q 0 b = et ∙ sets_join a l b g in
    let ld : length (drop n t) ≤ length t - n = omega (arith, length-drop n t) in
    let tk : take n t ≡ a = ap (λ (k : ℕ). take k t) en ∙ ap (take (length a)) j ∙ take-append_seam a (sets q 0 b) in
    let dr : drop n t ≡ sets q 0 b = ap (λ (k : ℕ). drop k t) en ∙ ap (drop (length a)) j ∙ drop-append_seam a (sets q 0 b) in
    let pq : p ≡ sets q 0 b = ep ∙ take_all (length t - n) (drop n t) ld ∙ dr in
    let yq : ys ≡ sets q 0 (u ++ b) =
    ey ∙ ap (λ (x : List ℕ). sets (sets x d (take m x)) 0 u) pq
    ∙ ap (λ (k : ℕ). sets (sets (sets q 0 b) d (take k (sets q 0 b))) 0 u) em
    ∙ ap (λ (k : ℕ). sets (sets (sets q 0 b) k (take (length b) (sets q 0 b))) 0 u) ed
    ∙ moved_up q u b in
    rw (drop_of_length-le (drop n t) ld, append-nil ys, tk, yq) (sym (sets_join a l (u ++ b) g))

-- ---- moving up: a copy of what fits, of the first m

pub copied_up : (l : List ℕ) {r : List ℕ} {n : ℕ} (m d : ℕ) → d < length l → n ≡ min m (length l - d) → r ≡ paste l d l (n - 0) → r ≡ sets l d (take m l)
copied_up l {r} {n} m d h e p = cut (ℕ_discrete n m)
  where
    many : length (take n l) ≡ n
    many = length-take-le n l (omega arith)

    all : r ≡ sets l d (take n l)
    all = p ∙ ap (λ (k : ℕ). paste l d l k) (let e : n - 0 ≡ n = omega arith in e) ∙ sym (sets-eq (take n l) l d (omega (arith, many)) ∙ ap (λ (k : ℕ). take d l ++ take n l ++ drop (d + k) l) many)

    cut : Dec (n ≡ m) → r ≡ sets l d (take m l)
    cut (yes q) = all ∙ ap (λ (k : ℕ). sets l d (take k l)) q
    cut (no q) =
        let k : n + (m - n) ≡ m = omega arith in
        let b : n ≡ length l - d = omega arith in
        rw (← k, take-add n (m - n) l) (sets_cut (take n l) (take (m - n) (drop n l)) l r d (omega (arith, many)) all)
