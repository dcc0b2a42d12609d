-- What is promised of a bookmark's numbers: from the decoder into the store, and back.
use Rattle.std.specs.Prelude.{ℕ, ◌-◌, ◌≤◌, ◌≡◌, true, List, length}
use Rattle.base.specs.Lists.{All}
use Rattle.lent.specs.Put.{Put}
use Rattle.tables.specs.Kanji.{non_spacing, has_character}
use Rattle.reading.specs.State.{Given, State, given}
use Rattle.decode_state.specs.declared.Decoder.{Decoder}
use Rattle.decode_state.specs.Promises.{view, Holds}
use Rattle.decode_outer.specs.Promises.{Outside}
use Rattle.bookmark_form.specs.Numbers.{numbers, place_of, state_of}

-- the numbers of the state that d holds, at most sixteen marks of the seven waiting, stand in the store
abbrev pub Stored : ℕ → Decoder → List ℕ → ℕ → List ℕ → ℕ → Type 0
Stored place d before at after r = (g : Given) (t₀ i₀ t i : List ℕ) (s : State) → Holds g t₀ i₀ s (view d) t i → All (λ m. has_character non_spacing m ≡ true) s.out.marks
    → length s.out.marks ≤ 16 → Put before at (numbers place s) after r

-- d holds the state that the numbers l say, and steps can be taken from their place
pub record Restored (input : List ℕ) (width : ℕ) (l t : List ℕ) (d : Decoder) (t' : List ℕ) : Type 0 where
  pub holds : (cells i : List ℕ) → Holds (given cells width input) t i (state_of l) (view d) t' i
  pub outside : Outside input (length input - place_of l) d
  pub unbounded : d.core.enough ≡ 0xFFFFFFFF
  pub none : d.core.out.issues ≡ 0
  pub short : d.core.out.end ≤ 4096
