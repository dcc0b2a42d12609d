-- What is promised of controls that write nothing and report nothing. A reading's settings are seven numbers: the sets in G0 to G3, the code
-- elements in GL and GR, and 1 where the size is narrow.
use Rattle.std.specs.Prelude.{ℕ, ◌+◌, ◌≤◌, ◌<◌, ◌≡◌, List, eqb, length, take, drop, get_or, Option, Some, None}
use Rattle.reading.specs.State.{Given, State, Step, took}
use Rattle.reading.specs.Macros.{Run}
use Rattle.reading.specs.Between.{until}

-- the state with these settings
abbrev pub with_settings : List ℕ → State → State
with_settings l s = record { sets = take 4 l; gl = get_or l 4 0; gr = get_or l 5 0; narrow = eqb (get_or l 6 0) 1; starts = s.starts; lens = s.lens; charged = s.charged; out = s.out }

-- l is a reading's settings: they are seven, and the elements in GL and GR are of the four
pub record Settings (l : List ℕ) : Type 0 where
  pub seven : length l ≡ 7
  pub gl : get_or l 4 0 < 4
  pub gr : get_or l 5 0 < 4

-- the step f at the byte i of b takes u bytes and turns the settings l into l'; or it is left, u is 0, and they stay
pub record Turns (f : State → Step) (b : List ℕ) (i : ℕ) (l : List ℕ) (u : ℕ) (l' : List ℕ) : Type 0 where
  pub within : i + u ≤ length b
  pub settings : Settings l'
  pub left : u ≡ 0 → l' ≡ l
  pub does : (u ≡ 0 → ⊥) → (s : State) → f (with_settings l s) ≡ took u (with_settings l' s)

-- how many bytes a step took, 0 where it is left
abbrev pub used_of : Option ℕ → ℕ
used_of (Some u) = u
used_of None = 0

-- the same of an answer: the bytes of a step that is taken, at least one, or none where it is left
pub record Takes (f : State → Step) (b : List ℕ) (i : ℕ) (l : List ℕ) (o : Option ℕ) (l' : List ℕ) : Type 0 where
  pub turns : Turns f b i l (used_of o) l'
  pub some : (u : ℕ) → o ≡ Some u → 1 ≤ u

-- the steps from the byte j of b to the byte j', which begin before the byte `to`, turn the settings l into l'
pub record Controls (b : List ℕ) (to j : ℕ) (l : List ℕ) (j' : ℕ) (l' : List ℕ) : Type 0 where
  pub past : j ≤ j'
  pub within : j' ≤ length b
  pub settings : Settings l'
  pub goes : (g : Given) (left : ℕ) (R : Run) (base origin : ℕ) (s : State) (later : ℕ) → to ≤ later
      → until g left R base origin later (drop j' b) j' 0 (with_settings l' s) ≡ until g left R base origin later (drop j b) j 0 (with_settings l s)
