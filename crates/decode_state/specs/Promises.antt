-- How the decoder's struct and the two lent buffers hold a state of the definition, and what a function that takes steps promises.
use Rattle.std.specs.Prelude.{ℕ, ◌+◌, ◌-◌, ◌≤◌, ◌<◌, ◌≡◌, false, cond, List, [], ◌∷◌, ◌⊎◌, eqb, length, drop, map, replicate}
use Rattle.decode_output.specs.declared.Out.{Out}
use Rattle.decode_output.specs.Output.{nothing}
use Rattle.decode_output.specs.Promises as output
use Rattle.reading.specs.State.{Given, State, Step}
use Rattle.reading.specs.Macros.{Run}
use Rattle.reading.specs.Between.{until}
use Rattle.decode_state.specs.declared.Core.{Core}
use Rattle.decode_state.specs.declared.Decoder.{Decoder}
use Rattle.decode_state.specs.declared.Macros.{Macros}
use Rattle.decode_state.specs.declared.Stepped.{Stepped}

-- the struct at a state
abbrev pub core_of : Given → State → ℕ → Out → Core
core_of g s enough o = record { sets = s.sets; gl = s.gl; gr = s.gr; narrow = s.narrow; annex = g.annex_e; enough = enough; charged = s.charged; out = o }

-- the struct as 01 has it: by code "128 macro bodies' starts in the input .. and lengths"
pub record Whole : Type 0 where
  pub core : Core
  pub starts : List ℕ
  pub lens : List ℕ

abbrev pub whole : Core → List ℕ → List ℕ → Whole
whole c starts lens = record { core = c; starts = starts; lens = lens }

abbrev pub over : Core → Macros → Whole
over c macros = whole c macros.starts macros.lens

abbrev pub view : Decoder → Whole
view d = over d.core d.macros

-- before the first byte, with these options, of a reading that so many issues end
abbrev pub start_of : ℕ → ℕ → ℕ → Core
start_of initial width enough =
    let g3 : ℕ = cond (eqb initial 0) 3 15 in
    record { sets = 0 ∷ 1 ∷ 2 ∷ g3 ∷ []; gl = 0; gr = 2; narrow = false; annex = eqb width 1; enough = enough; charged = 0; out = output.out_of nothing }

-- no macro is defined
abbrev pub undefined : Core → Decoder
undefined c = record { core = c; macros = record { starts = replicate 128 0; lens = replicate 128 0 } }

-- d and the buffers t and i hold the state s, over buffers that were t₀ and i₀
pub record Holds (g : Given) (t₀ i₀ : List ℕ) (s : State) (d : Whole) (t i : List ℕ) : Type 0 where
  pub state : d ≡ whole (core_of g s d.core.enough d.core.out) s.starts s.lens
  pub out : output.Holds t₀ i₀ s.out d.core.out t i

-- from d, t, i to d', t', i' as f goes
abbrev pub Does : Given → (State → State) → Whole → List ℕ → List ℕ → Whole → List ℕ → List ℕ → Type 0
Does g f d t i d' t' i' = (t₀ i₀ : List ℕ) (s : State) → Holds g t₀ i₀ s d t i → Holds g t₀ i₀ (f s) d' t' i'

-- a step of u bytes, whatever the macros
pub record Moves (g : Given) (f : State → Step) (c : Core) (t i : List ℕ) (u : ℕ) (c' : Core) (t' i' : List ℕ) : Type 0 where
  pub does : (starts lens : List ℕ) → Does g (λ s. (f s).to) (whole c starts lens) t i (whole c' starts lens) t' i'
  pub used : (starts lens t₀ i₀ : List ℕ) (s : State) → Holds g t₀ i₀ s (whole c starts lens) t i → u ≡ (f s).used

-- what a function is given that takes e bytes: the elements in GL and GR are of the four, and there is room
pub record MayTake (e : ℕ) (c : Core) : Type 0 where
  pub gl : c.gl < 4
  pub gr : c.gr < 4
  pub room : output.Room e e c.out

-- what it gives
pub record Kept (e : ℕ) (c r : Core) : Type 0 where
  pub gl : r.gl < 4
  pub gr : r.gr < 4
  pub enough : r.enough ≡ c.enough
  pub charged : r.charged ≡ c.charged
  pub grew : output.Grew e e c.out r.out

-- a step at the place i of b that concerns no macro and no cell
pub record Took (b : List ℕ) (i : ℕ) (f : State → Step) (c : Core) (t i₁ : List ℕ) (r : Stepped) (t' i₂ : List ℕ) : Type 0 where
  pub moves : (g : Given) → Moves g f c t i₁ r.used r.core t' i₂
  pub some : 1 ≤ r.used
  pub within : i + r.used ≤ length b
  pub kept : Kept 1 c r.core

-- a step at the place i of b that concerns no macro, over a cell table
pub record TookOver (cells : List ℕ) (b : List ℕ) (i : ℕ) (f : Given → State → Step) (c : Core) (t i₁ : List ℕ) (r : Stepped) (t' i₂ : List ℕ) : Type 0 where
  pub moves : (g : Given) → g.cells ≡ cells → Moves g (f g) c t i₁ r.used r.core t' i₂
  pub some : 1 ≤ r.used
  pub within : i + r.used ≤ length b
  pub kept : Kept 1 c r.core

-- By steps that begin before the byte `to` of b, from its byte j and the state that d holds to its byte j' and the state that d' holds: stepping on from
-- there, up to that byte or a later one, is stepping on from here.
abbrev pub Goes : Given → ℕ → Run → ℕ → ℕ → List ℕ → ℕ → ℕ → Whole → List ℕ → List ℕ → ℕ → Whole → List ℕ → List ℕ → Type 0
Goes g left R base origin b to j d t i j' d' t' i' = (t₀ i₀ : List ℕ) (s : State) → Holds g t₀ i₀ s d t i
    → (s' : State) × (Holds g t₀ i₀ s' d' t' i'
    × ((later : ℕ) → to ≤ later → until g left R base origin later (drop j' b) j' 0 s' ≡ until g left R base origin later (drop j b) j 0 s))

-- from the byte j of b to the byte j' by such steps, none of which concerns a macro, over a cell table
pub record Stretch (cells : List ℕ) (base origin : ℕ) (b : List ℕ) (to j : ℕ) (c : Core) (t i : List ℕ) (j' : ℕ) (r : Core) (t' i' : List ℕ) : Type 0 where
  pub past : j ≤ j'
  pub within : j' ≤ length b
  pub kept : Kept (j' - j) c r
  pub goes : (g : Given) → g.cells ≡ cells → (left : ℕ) (R : Run) (starts lens : List ℕ) → Goes g left R base origin b to j (whole c starts lens) t i j' (whole r starts lens) t' i'

-- ---- a reading that so many issues end

-- it has enough of them
abbrev pub Ends : ℕ → ℕ → Type 0
Ends enough issues = enough ≤ issues

-- it has, and was left there: the state as defined has as many
pub record Cut (c : Core) (s : State) : Type 0 where
  pub ends : Ends c.enough c.out.issues
  pub has : c.enough ≤ length s.out.issues

-- d and the buffers hold the state s, or the reading was cut before it
abbrev pub HoldsOrCut : Given → List ℕ → List ℕ → State → Whole → List ℕ → List ℕ → Type 0
HoldsOrCut g t₀ i₀ s d t i = Holds g t₀ i₀ s d t i ⊎ Cut d.core s

-- from d, t, i to d', t', i' as f goes, or cut
abbrev pub DoesOrCut : Given → (State → State) → Whole → List ℕ → List ℕ → Whole → List ℕ → List ℕ → Type 0
DoesOrCut g f d t i d' t' i' = (t₀ i₀ : List ℕ) (s : State) → Holds g t₀ i₀ s d t i → HoldsOrCut g t₀ i₀ (f s) d' t' i'

-- the same of a step w that takes u bytes
abbrev pub TakenOrCut : Given → List ℕ → List ℕ → Step → ℕ → Whole → List ℕ → List ℕ → Type 0
TakenOrCut g t₀ i₀ w u d t i = (Holds g t₀ i₀ w.to d t i × (u ≡ w.used)) ⊎ Cut d.core w.to
