-- What the steps outside every body promise.
use Rattle.std.specs.Prelude.{ℕ, ◌+◌, ◌-◌, ◌≤◌, ◌≡◌, List, ◌⊎◌, length, drop, get_or, set}
use Rattle.reading.specs.State.{Given, State, Step}
use Rattle.reading.specs.Macros.{limit}
use Rattle.reading.specs.Steps.{step, run}
use Rattle.reading.specs.Between.{Between, until}
use Rattle.decode_state.specs.declared.Decoder.{Decoder}
use Rattle.decode_state.specs.Promises.{view, Holds, Cut}
use Rattle.decode_bodies.specs.Promises.{below, Inside, Ready, Grown, Ran, RanStep}
use Rattle.decode_outer.specs.declared.Reached.{Reached}

-- what a function is given that takes e bytes of the input: the macros lie in it, and there is room
pub record Outside (input : List ℕ) (e : ℕ) (d : Decoder) : Type 0 where
  pub short : length input ≤ 65535
  pub inside : Inside input d.macros.starts d.macros.lens
  pub ready : Ready (limit input) e d.core

-- a macro is defined
abbrev pub defining : Decoder → ℕ → ℕ → ℕ → Decoder
defining d code start len = record { core = d.core; macros = record { starts = set d.macros.starts code start; lens = set d.macros.lens code len } }

-- the step at the byte j of the input: its offset is its own, and four bodies may be opened
abbrev pub step_at : List ℕ → ℕ → Given → State → Step
step_at input j g = step g 4 (below g 4) (get_or input j 0) (drop (j + 1) input) j j

-- a step at the byte j of the input, which goes as f; macros may be defined
pub record OuterStep (cells input : List ℕ) (j : ℕ) (f : Given → State → Step) (d : Decoder) (t i : List ℕ) (r : Reached) (t' i' : List ℕ) : Type 0 where
  pub ran : RanStep cells input input j f (view d) t i (r.at - j) (view r.decoder) t' i'
  pub inside : Inside input r.decoder.macros.starts r.decoder.macros.lens

-- a macro that runs outside every body goes as f, and the macros stay
pub record Executed (cells input : List ℕ) (f : Given → State → State) (d : Decoder) (t i : List ℕ) (r : Decoder) (t' i' : List ℕ) : Type 0 where
  pub macros : r.macros ≡ d.macros
  pub ran : Ran cells input 1 f (view d) t i (view r) t' i'

-- the steps of the input from the byte `from`, up to the first that begins at the byte `to` or behind it
abbrev pub steps_from : ℕ → ℕ → Given → State → Between
steps_from from to g = until g 4 (run g 3) 0 0 to (drop from g.input) from 0

-- d and the buffers hold the state there, and `at` is the byte; or the reading was cut before it
abbrev pub ReachesOrCut : Given → List ℕ → List ℕ → Between → ℕ → Decoder → List ℕ → List ℕ → Type 0
ReachesOrCut g t₀ i₀ w at d t i = (Holds g t₀ i₀ w.state (view d) t i × (at ≡ w.at)) ⊎ Cut d.core w.state

-- these steps were taken
pub record TopRan (cells input : List ℕ) (from to : ℕ) (d : Decoder) (t i : List ℕ) (r : Reached) (t' i' : List ℕ) : Type 0 where
  pub does : (g : Given) → g.cells ≡ cells → g.input ≡ input → (t₀ i₀ : List ℕ) (s : State) → Holds g t₀ i₀ s (view d) t i
      → ReachesOrCut g t₀ i₀ (steps_from from to g s) r.at r.decoder t' i'
  pub inside : Inside input r.decoder.macros.starts r.decoder.macros.lens
  pub grown : Grown (limit input) (length input - from) d.core r.decoder.core
