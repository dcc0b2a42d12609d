-- A run of stores right before another. Assumes nothing.
use mathlib.Core.Path.{◌≡◌, refl, ap, ◌∙◌}
use mathlib.Core.List.{List, [], ◌∷◌, ◌++◌}
use Prim.Native.Nat.{ℕ, suc, ◌+◌, ◌<◌}
use native.Mathlib.Nat.{add-zero, ne_of_gt}
use native.Mathlib.Omega.{arith}
use lib.ListN.{length, set}
use lib.Seq.{sets, set_comm}

set_sets : (vs l : List ℕ) (i j x : ℕ) → j < i → set (sets l i vs) j x ≡ sets (set l j x) i vs
set_sets [] l i j x h = refl
set_sets (v ∷ vs) l i j x h = set_sets vs (set l i v) (suc i) j x (omega arith) ∙ ap (λ (k : List ℕ). sets k (suc i) vs) (set_comm l i j v x (ne_of_gt h))

pub sets_before : (us vs l : List ℕ) (i j : ℕ) → i ≡ j + length us → sets (sets l i vs) j us ≡ sets l j (us ++ vs)
sets_before [] vs l i j e = ap (λ (k : ℕ). sets l k vs) (e ∙ add-zero j)
sets_before (u ∷ us) vs l i j e = ap (λ (k : List ℕ). sets k (suc j) us) (set_sets vs l i j u (omega arith)) ∙ sets_before us vs (set l j u) i (suc j) (omega arith)
