-- What the functions that run macro bodies promise.
use Rattle.std.specs.Prelude.{ℕ, zero, suc, ◌+◌, ◌-◌, ◌*◌, ◌≤◌, ◌<◌, ◌≡◌, List, length, take, drop, get_or}
use Rattle.decode_output.specs.Promises as output
use Rattle.reading.specs.State.{Given, State, Step}
use Rattle.reading.specs.Macros.{Run, end_of, limit}
use Rattle.reading.specs.Steps.{step, run}
use Rattle.decode_state.specs.declared.Core.{Core}
use Rattle.decode_state.specs.declared.Macros.{Macros}
use Rattle.decode_state.specs.Promises.{Whole, Holds, DoesOrCut, TakenOrCut}
use Rattle.decode_bodies.specs.declared.Place.{Place}

-- to run a body one deeper, where `left` more may be opened
unfoldable pub below : Given → ℕ → Run
unfolding run
below g zero = λ b base origin s. s
below g (suc left) = run g left

-- the step at the byte j of a body that runs at p
abbrev pub step_in : List ℕ → ℕ → Place → Given → State → Step
step_in b j p g = step g p.left (below g p.left) (get_or b j 0) (drop (j + 1) b) (p.base + j) p.at

-- ---- what a function is given

-- the body of a code
abbrev pub body_at : List ℕ → List ℕ → List ℕ → ℕ → List ℕ
body_at input starts lens code = take (get_or lens code 0) (drop (get_or starts code 0) input)

-- a body: it is no longer than an input, and no definition ends in it
pub record Body (b : List ℕ) : Type 0 where
  pub short : length b ≤ 65535
  pub bare : end_of b ≡ length b

-- "128 starts and lengths": every body lies in the input, and no definition ends in it
pub record Inside (input starts lens : List ℕ) : Type 0 where
  pub starts_count : length starts ≡ 128
  pub lens_count : length lens ≡ 128
  pub within : (code : ℕ) → get_or starts code 0 + get_or lens code 0 ≤ length input
  pub bare : (code : ℕ) → end_of (body_at input starts lens code) ≡ length (body_at input starts lens code)

-- What holds before e bytes, where n may be charged in all: the code elements in GL and GR are of the four, the charge is within n,
-- and there is room for e bytes and for all that may still be charged.
pub record Ready (n e : ℕ) (c : Core) : Type 0 where
  pub gl : c.gl < 4
  pub gr : c.gr < 4
  pub within : c.charged ≤ n
  pub room : output.Room (n - c.charged + e) (n - c.charged + e) c.out

-- what a function of the cycle is given that takes e bytes at p
pub record Opens (input : List ℕ) (macros : Macros) (p : Place) (e : ℕ) (c : Core) : Type 0 where
  pub input_short : length input ≤ 65535
  pub base : p.base ≤ 65535
  pub at : p.at < 65535
  pub inside : Inside input macros.starts macros.lens
  pub ready : Ready (limit input) e c

-- ---- what it gives

-- e bytes later: what was written grew by no more than e bytes, and what was charged since, can write
pub record Grown (n e : ℕ) (c r : Core) : Type 0 where
  pub gl : r.gl < 4
  pub gr : r.gr < 4
  pub enough : r.enough ≡ c.enough
  pub within : r.charged ≤ n
  pub ordered : output.Ordered r.out
  pub repeat : r.out.repeat ≤ 63
  pub text : r.out.end + 256 * (n - r.charged) ≤ c.out.end + 256 * (n - c.charged + e)
  pub issues : r.out.issues + (n - r.charged) ≤ c.out.issues + (n - c.charged + e)

-- from d, t, i to d', t', i' as f goes, e bytes on, or to an issue that ends the reading, where f has as many
pub record Ran (cells input : List ℕ) (e : ℕ) (f : Given → State → State) (d : Whole) (t i : List ℕ) (d' : Whole) (t' i' : List ℕ) : Type 0 where
  pub does : (g : Given) → g.cells ≡ cells → g.input ≡ input → DoesOrCut g (f g) d t i d' t' i'
  pub grown : Grown (limit input) e d.core d'.core

-- the same of a step that takes u bytes, at the byte j of b
pub record RanStep (cells input b : List ℕ) (j : ℕ) (f : Given → State → Step) (d : Whole) (t i : List ℕ) (u : ℕ) (d' : Whole) (t' i' : List ℕ) : Type 0 where
  pub does : (g : Given) → g.cells ≡ cells → g.input ≡ input → (t₀ i₀ : List ℕ) (s : State) → Holds g t₀ i₀ s d t i → TakenOrCut g t₀ i₀ (f g s) u d' t' i'
  pub some : 1 ≤ u
  pub most : j + u ≤ length b
  pub grown : Grown (limit input) 1 d.core d'.core
