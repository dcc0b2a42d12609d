-- A layer that is being squeezed into one number a node. Assumes nothing.
use mathlib.Core.Path.{◌≡◌, refl, ap, ◌∙◌}
use mathlib.Core.List.{List}
use Prim.Native.Nat.{ℕ, ◌+◌, ◌*◌, ◌≤◌, ◌<◌}
use native.Mathlib.Decide.{ℕ_discrete}
use native.Mathlib.Omega.{arith}
use lib.ListN.{length, get_or, set, drop, length-set}
use lib.Seq.{get_or-set_same, get_or-set_other, drop-set-lt}
use Rattle.encode_layer.specs.Kept.{older, Squeezed}

-- after i of its nodes
pub record Going (s₀ s : List ℕ) (count before i : ℕ) : Type 0 where
  pub same : length s ≡ length s₀
  pub i_le : i ≤ count
  pub done : (j : ℕ) → j < i → get_or s j 0 ≡ older (get_or s₀ (j * 4 + 2) 0) (before + j)
  pub left : (j : ℕ) → i ≤ j → get_or s j 0 ≡ get_or s₀ j 0
  pub behind : drop count s ≡ drop count s₀

module _ (s₀ : List ℕ) (count before : ℕ) where
  pub going_start : Going s₀ s₀ count before 0
  going_start = record { same = refl; i_le = omega arith; done = λ j h. absurd (omega arith); left = λ j h. refl; behind = refl }

  pub going_on : (s s' : List ℕ) (i : ℕ) → count * 4 ≤ length s₀ → i < count → s' ≡ set s i (older (get_or s (i * 4 + 2) 0) (before + i)) → Going s₀ s count before i →
      Going s₀ s' count before (i + 1)
  going_on s s' i fits h q g =
      record {
        same = ap length q ∙ (length-set s i _ ∙ g.same);
        i_le = omega arith;
        done = λ j k. rw q (at j k (ℕ_discrete j i));
        left = λ j k. ap (λ (l : List ℕ). get_or l j 0) q ∙ (get_or-set_other s i j _ 0 (λ e. omega arith) ∙ g.left j (omega arith));
        behind = ap (drop count) q ∙ (drop-set-lt count s i _ h ∙ g.behind);
      }
    where
      at : (j : ℕ) → j < i + 1 → Dec (j ≡ i) → get_or (set s i (older (get_or s (i * 4 + 2) 0) (before + i))) j 0 ≡ older (get_or s₀ (j * 4 + 2) 0) (before + j)
      at j k (yes e) = rw e (get_or-set_same s i _ 0 (omega (arith, g.same)) ∙ ap (λ (x : ℕ). older x (before + i)) (g.left (i * 4 + 2) (omega arith)))
      at j k (no e) = get_or-set_other s i j _ 0 e ∙ g.done j (omega arith)

  pub going_end : (s : List ℕ) (i : ℕ) → count ≤ i → Going s₀ s count before i → Squeezed s₀ s count before
  going_end s i h g = record { each = λ j k. g.done j (omega arith); behind = g.behind }
