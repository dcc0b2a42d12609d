-- Runs of stores, of which those past the end change nothing. Assumes nothing.
use Prim.Native.Nat.{ℕ, suc, ◌+◌, ◌≤◌, ◌<◌}
use mathlib.Core.Path.{◌≡◌, refl, sym, ap, ◌∙◌}
use mathlib.Core.List.{List, [], ◌∷◌, ◌++◌}
use native.Mathlib.Nat.{add-zero}
use native.Mathlib.Numerals.{add-one}
use native.Mathlib.Omega.{arith}
use lib.ListN.{length, get_or, set, take, drop, length-append}
use lib.Seq.{sets, sets-eq, set_out, length-sets, take-suc, length-take-le, take_at, drop-set-lt}

-- past the end
pub sets_out : (vs l : List ℕ) (i : ℕ) → length l ≤ i → sets l i vs ≡ l
sets_out [] l i h = refl
sets_out (v ∷ vs) l i h = rw (set_out l i v h) (sets_out vs l (suc i) (omega arith))

-- one run after another
pub sets_append : (vs ws l : List ℕ) (i : ℕ) → sets l i (vs ++ ws) ≡ sets (sets l i vs) (i + length vs) ws
sets_append [] ws l i = ap (λ (k : ℕ). sets l k ws) (sym (add-zero i))
sets_append (v ∷ vs) ws l i =
    let e : suc i + length vs ≡ i + suc (length vs) = omega arith in
    sets_append vs ws (set l i v) (suc i) ∙ ap (λ (k : ℕ). sets (sets (set l i v) (suc i) vs) k ws) e

-- a run of which only the beginning fits
pub sets_cut : (vs ws l r : List ℕ) (i : ℕ) → length l ≤ i + length vs → r ≡ sets l i vs → r ≡ sets l i (vs ++ ws)
sets_cut vs ws l r i h e =
    let g : length (sets l i vs) ≤ i + length vs = omega (arith, length-sets l i vs) in
    e ∙ sym (sets_append vs ws l i ∙ sets_out ws (sets l i vs) (i + length vs) g)

-- one element more of a run s
pub sets_more : (l s t : List ℕ) (n i : ℕ) → i < length s → t ≡ sets l n (take i s) → set t (n + i) (get_or s i 0) ≡ sets l n (take (i + 1) s)
sets_more l s t n i h p =
    let e : length (take i s) ≡ i = length-take-le i s (omega arith) in
    rw (p, add-one, take-suc s i 0 h, sets_append) (rw e)

-- what stands behind a run, and up to its end
pub drop_sets : (vs l : List ℕ) (i k : ℕ) → i + length vs ≤ k → drop k (sets l i vs) ≡ drop k l
drop_sets [] l i k h = refl
drop_sets (v ∷ vs) l i k h = drop_sets vs (set l i v) (suc i) k (omega arith) ∙ drop-set-lt k l i v (omega arith)

pub take_sets : (vs l : List ℕ) (i : ℕ) → i + length vs ≤ length l → take (i + length vs) (sets l i vs) ≡ take i l ++ vs
take_sets vs l i h =
    ap (take (i + length vs)) (sets-eq vs l i h)
    ∙ take_at (take i l ++ vs) (drop (i + length vs) l) (i + length vs) (length-append (take i l) vs ∙ ap (λ (k : ℕ). k + length vs) (length-take-le i l (omega arith)))
