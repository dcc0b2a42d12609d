-- `top`: the loop goes along the input; its measure is what is left unread of it.
use Prim.Native.Nat.{◌-◌}
use lib.ListN.{length}
use Prim.Native.Nat.{ℕ}
use mathlib.Core.List.{List}
use Rattle.decode_state.specs.declared.Decoder.{Decoder}
use Rattle.decode_state.specs.Promises.{view}
use Rattle.decode_bodies.specs.Promises.{Inside}
use Rattle.decode_bodies.proofs.Along.{Along}
use Rattle.decode_outer.proofs.top.Given as goal

-- from the byte j of the input to its byte i, where the macros lie in the input
pub record Above (cells input : List ℕ) (to j : ℕ) (d₀ : Decoder) (t₀ i₀ : List ℕ) (i : ℕ) (d : Decoder) (t i₁ : List ℕ) : Type 0 where
  pub along : Along cells input 4 0 0 input to j (view d₀) t₀ i₀ i (view d) t i₁
  pub inside : Inside input d.macros.starts d.macros.lens

abbrev pub invariant-loop-stop : goal.invariant-loop-stop
invariant-loop-stop l = Above l.cells l.input l.to l.initial.i l.initial.d l.initial.text l.initial.issues l.i l.d l.text l.issues

abbrev pub decreases-loop-stop : goal.decreases-loop-stop
decreases-loop-stop l = length l.input - l.i
