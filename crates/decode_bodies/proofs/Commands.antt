-- MACRO, by what `read_command` says that it is.
use Prim.Native.Nat.{ℕ, ◌+◌, ◌≤◌}
use mathlib.Core.Path.{◌≡◌, sym, ap, ◌∙◌}
use mathlib.Core.Bool.{Bool}
use mathlib.Core.List.{List}
use native.Mathlib.Omega.{arith}
use lib.ListN.{length, drop}
use Rattle.issues.specs.declared.IssueKind.TheVariants.{MalformedControl}
use Rattle.reading.specs.State.{Given, State, issue, truncated}
use Rattle.reading.specs.Macros.{Run, macro_cmd}
use Rattle.decode_state.specs.declared.Core.{Core}
use Rattle.decode_state.specs.declared.Stepped.{Stepped}
use Rattle.decode_state.specs.Promises.{TookOver, Took}
use Rattle.decode_characters.specs.Promises.{Did}
use Rattle.decode_characters.proofs.Did.{took_did}
use Rattle.decode_steps.proofs.Moving.{took_over, took_as}
use Rattle.decode_macros.specs.declared.Command.{Command}
use Rattle.decode_macros.specs.declared.Command.TheVariants.{Cut, Ends, Malformed, Defines}
use Rattle.decode_macros.specs.Promises.{Defined, Ended, Within, commanded}

-- what `read_command` says of a command at the byte j of b, with n bytes from it on
abbrev pub Means : List ℕ → ℕ → ℕ → Command → Type 0
Means b j n cmd = (g : Given) (left : ℕ) (R : Run) (place at : ℕ) (s : State)
    → macro_cmd g left R (drop (j + 1) b) place at s ≡ commanded cmd n g left R place at s

module _ (b : List ℕ) (j n : ℕ) (cmd : Command) (m : Means b j n cmd) (at : ℕ) (c : Core) (i i' : List ℕ) where
  known : {x : Command} → cmd ≡ x → (g : Given) (left : ℕ) (R : Run) (place : ℕ) (s : State)
      → macro_cmd g left R (drop (j + 1) b) place at s ≡ commanded x n g left R place at s
  known q g left R place s = m g left R place at s ∙ ap (λ (z : Command). commanded z n g left R place at s) q

  pub took_cut : (r : Stepped) → cmd ≡ Cut → ((t : List ℕ) → Took b j (truncated n at) c t i r t i')
      → (left : ℕ) (R : Run) (place : ℕ) (cells t : List ℕ) → TookOver cells b j (λ g. macro_cmd g left R (drop (j + 1) b) place at) c t i r t i'
  unfolding commanded
  took_cut r q v left R place cells t = took_as (λ g starts lens t₀ i₀ s h. sym (known q g left R place s)) (took_over (λ g. v t))

  pub took_malformed : (r : Core) → cmd ≡ Malformed → j + 2 ≤ length b → ((cells t : List ℕ) → Did cells (λ g. issue at (MalformedControl 0x95)) c t i r t i')
      → (left : ℕ) (R : Run) (place : ℕ) (cells t : List ℕ)
      → TookOver cells b j (λ g. macro_cmd g left R (drop (j + 1) b) place at) c t i (record { used = 2; core = r }) t i'
  unfolding commanded
  took_malformed r q h v left R place cells t =
      took_did (λ g. macro_cmd g left R (drop (j + 1) b) place at) 2 (omega arith) h (λ g s. known q g left R place s) (v cells t)

-- what a command says of its bytes, once it is known which
pub within_malformed : {r : Command} (b : List ℕ) (i : ℕ) → Within r b i → r ≡ Malformed → i + 2 ≤ length b
within_malformed b i w q = rw q at w

pub within_ends : {r : Command} (b : List ℕ) (i : ℕ) → Within r b i → r ≡ Ends → i + 2 ≤ length b
within_ends b i w q = let h : Ended b i = rw q at w in h.room

pub within_defines : {r : Command} {code len : ℕ} {runs : Bool} (b : List ℕ) (i : ℕ) → Within r b i → r ≡ Defines code len runs → Defined code len b i
within_defines b i w q = rw q at w
