-- From a case of a step to what is read. Assumes nothing.
use Prim.Native.Nat.{ℕ, ◌+◌, ◌≤◌}
use mathlib.Core.Path.{◌≡◌, ◌∙◌}
use mathlib.Core.List.{List}
use native.Mathlib.Omega.{arith}
use lib.ListN.{length}
use Rattle.reading.specs.State.{State, Step, took}
use Rattle.decode_controls.specs.declared.Effect.{Effect}
use Rattle.decode_controls.specs.declared.Effect.TheVariants.{Nothing}
use Rattle.decode_controls.specs.declared.Control.{Control}
use Rattle.decode_controls.specs.Controls.{step_of, element_of, repeat_of, Bounded, Reads}

module _ {f : ℕ → ℕ → State → Step} {b : List ℕ} {i : ℕ} where
  pub reads_of : (e : Effect) (n : ℕ) → Bounded e → 1 ≤ n → i + n ≤ length b → ((place at : ℕ) (s : State) → f place at s ≡ step_of e n place at s)
      → Reads f b i (record { effect = e; used = n })
  reads_of e n h p q k = record { says = k; some = p; within = q; bounded = h }

  -- a step that is another at every state
  pub reads_as : {f' : ℕ → ℕ → State → Step} {c : Control} → ((place at : ℕ) (s : State) → f place at s ≡ f' place at s) → Reads f' b i c → Reads f b i c
  reads_as k r = record { says = λ place at s. k place at s ∙ r.says place at s; some = r.some; within = r.within; bounded = r.bounded }

-- an effect that concerns no code element and makes nothing wait
pub bounded : {e : Effect} → element_of e ≡ 0 → repeat_of e ≡ 0 → Bounded e
bounded p q = record { element = omega arith; count = omega arith }

-- nothing that a text shows
pub reads_nothing : {f : ℕ → State → Step} {b : List ℕ} {i : ℕ} (n : ℕ) → 1 ≤ n → i + n ≤ length b → ((at : ℕ) (s : State) → f at s ≡ took n s)
    → Reads (λ place. f) b i (record { effect = Nothing; used = n })
unfolding step_of
reads_nothing n p q k = record { says = λ place at s. k at s; some = p; within = q; bounded = record { element = omega arith; count = omega arith } }
