-- The start holds the state before the first byte. Assumes nothing.
use Prim.Native.Nat.{ℕ}
use mathlib.Core.Path.{refl}
use mathlib.Core.List.{List}
use Rattle.decode_output.proofs.Callers.{holds_nothing}
use Rattle.reading.specs.State.{given, start}
use Rattle.decode_state.specs.Promises.{start_of, undefined, view, Holds}

pub holds_start : (cells input : List ℕ) (initial width : ℕ) (enough : ℕ) (t i : List ℕ)
    → Holds (given cells width input) t i (start initial) (view (undefined (start_of initial width enough))) t i
unfolding start
holds_start cells input initial width enough t i = record { state = refl; out = holds_nothing t i }
