-- What holds between the outermost steps of a reading, as statements: request 9 of docs/REQUESTS.md stands on these. proofs/ proves each under its name.
use Rattle.std.specs.Prelude.{ℕ, ◌+◌, ◌*◌, ◌≤◌, ◌<◌, ◌≡◌, true, List, length, take, drop, get_or}
use Rattle.base.specs.Lists.{All}
use Rattle.tables.specs.Kanji.{non_spacing, has_character}
use Rattle.utf8.specs.Utf8.{utf8s}
use Rattle.reading.specs.State.{Given, State, start}
use Rattle.reading.specs.Macros.{end_of, limit}
use Rattle.reading.specs.Steps.{steps, run}
use Rattle.reading.specs.Between.{before}

-- the body of a code
abbrev pub body_of : List ℕ → State → ℕ → List ℕ
body_of input s code = take (get_or s.lens code 0) (drop (get_or s.starts code 0) input)

-- what holds of a state between the steps of an input: four sets of the 32 and elements of the four; 128 bodies that lie in the input, in which no
-- definition ends; a charge within its limit; marks of the seven; a repeat of six bits; and four bytes for each of 21 characters that a byte can write
pub record Sound (input : List ℕ) (s : State) : Type 0 where
  pub four : length s.sets ≡ 4
  pub sets : All (λ n. n ≤ 31) s.sets
  pub gl : s.gl < 4
  pub gr : s.gr < 4
  pub starts : length s.starts ≡ 128
  pub lens : length s.lens ≡ 128
  pub inside : (code : ℕ) → get_or s.starts code 0 + get_or s.lens code 0 ≤ length input
  pub bare : (code : ℕ) → end_of (body_of input s code) ≡ length (body_of input s code)
  pub charged : s.charged ≤ limit input
  pub marks : All (λ m. has_character non_spacing m ≡ true) s.out.marks
  pub repeat : s.out.repeat ≤ 63
  pub text : length (utf8s s.out.text) ≤ 84 * (length input + s.charged)

abbrev pub BetweenSound : Type 0
BetweenSound = (g : Given) (initial place : ℕ) → Sound g.input (before g initial place).state

-- no place lies behind the input
abbrev pub BetweenWithin : Type 0
BetweenWithin = (g : Given) (initial place : ℕ) → (before g initial place).at ≤ length g.input

-- the rest of a reading is the steps from there
abbrev pub StepsOn : Type 0
StepsOn = (g : Given) (initial place : ℕ)
    → steps g 4 (run g 3) 0 0 (drop (before g initial place).at g.input) (before g initial place).at 0 (before g initial place).state
    ≡ run g 4 g.input 0 0 (start initial)
