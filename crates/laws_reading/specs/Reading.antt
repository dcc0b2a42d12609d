-- The laws of reading, as statements: 01, "Reading". proofs/Reading.antt and, for bodies, proofs/Bodies.antt prove each under its name.
use Rattle.std.specs.Prelude.{ℕ, suc, ◌+◌, ◌*◌, ◌/◌, ◌≤◌, ◌<◌, ◌≡◌, Bool, true, false, cond, ◌&&◌, List, [], ◌∷◌, ◌++◌, leb, length, drop}
use Rattle.std.proofs.Math.Option.{Option, none, some}
use Rattle.base.specs.Lists.{All}
use Rattle.issues.specs.Issue.{Issue, numbers}
use Rattle.issues.specs.declared.IssueKind.TheVariants.{UnknownEscape}
use Rattle.decode_output.specs.Output.{release}
use Rattle.reading.specs.State.{Given, State, writes}
use Rattle.reading.specs.Macros.{Run}
use Rattle.reading.specs.Steps.{step, steps, run, decode}
use Rattle.reading.specs.Call.{Lent, reading, text_bytes, issue_list, fits, escape_part}
use Rattle.reading.specs.Examples.{Rows}
use Rattle.laws_reading.specs.Bodies.{Begun, begun, bodies, total}
use Rattle.laws_reading.specs.Positions.{Placed, ReportedAt}

-- "its length is within what remains of 64 × length + 4,096"
abbrev pub ChargeBound : Type 0
ChargeBound = (g : Given) (initial : ℕ) → (decode g initial).charged ≤ 64 * length g.input + 4096

-- "Running it charges its length": the charge is "the definition's sum of run body lengths"
abbrev pub ChargeIsSum : Type 0
ChargeIsSum = (g : Given) (initial : ℕ) → (decode g initial).charged ≡ total (bodies g initial)

-- A body is run: it begins with its length charged and nothing written or reported, and the state in which its run ends is t.
pub record BodyRun (R : Run) (at : ℕ) (s : State) (b : Begun) (t : State) : Type 0 where
  pub charges : b.from.charged ≡ s.charged + length b.body.bytes
  pub begins : b.from.out ≡ s.out
  pub ends : t ≡ R b.body.bytes b.body.place (suc at) b.from

-- From s to t nothing is charged, and what is reported stands at the end of the text of s.
pub record Free (s t : State) : Type 0 where
  pub charged : t.charged ≡ s.charged
  pub reported : ReportedAt s t

-- from s to t that body is run, or none
abbrev pub RunOrFree : Run → ℕ → State → Option Begun → State → Type 0
RunOrFree R at s none t = Free s t
RunOrFree R at s (some b) t = BodyRun R at s b t

-- What `bodies` lists is run and not only charged: a step runs the body that it is said to run, and ends as that run does.
abbrev pub BodiesRun : Type 0
BodiesRun = (g : Given) (left : ℕ) (R : Run) (x : ℕ) (rest : List ℕ) (place at : ℕ) (s : State) →
    RunOrFree R at s (begun g left x rest place s) (step g left R x rest place at s).to

-- "every offset is below the input's length"
abbrev pub OffsetsInside : Type 0
OffsetsInside = (g : Given) (initial : ℕ) → All (λ i. i.offset < length g.input) (decode g initial).out.issues

-- "The text has at most 21 × (length + charged) characters"
abbrev pub CharactersBound : Type 0
CharactersBound = (g : Given) (initial : ℕ) → length (decode g initial).out.text ≤ 21 * (length g.input + (decode g initial).charged)

-- a byte from 02/0 to 02/15, and a final byte, from 03/0 to 07/14
abbrev pub is_intermediate : ℕ → Bool
is_intermediate b = leb 0x20 b && leb b 0x2F

abbrev pub is_final : ℕ → Bool
is_final b = leb 0x30 b && leb b 0x7E

-- The escape at a start: ESC, all the intermediates that follow it, and the next byte if it is a final byte. It lies in the input, and "The bytes
-- of an unknown escape are handed back as that part of the input on request".
pub record Escape (input : List ℕ) (start len : ℕ) : Type 0 where
  pub intermediates : List ℕ
  pub next : ℕ
  pub rest : List ℕ
  pub stands : drop start input ≡ 0x1B ∷ (intermediates ++ (next ∷ rest))
  pub each : All (λ b. is_intermediate b ≡ true) intermediates
  pub whole : is_intermediate next ≡ false
  pub inside : start + len ≤ length input
  pub part : escape_part input start len ≡ 0x1B ∷ (intermediates ++ cond (is_final next) (next ∷ []) [])

-- "UnknownEscape: start in the input and length"
abbrev pub EscapesInside : Type 0
EscapesInside = (g : Given) (initial : ℕ) → All (λ i. (start len : ℕ) → i.kind ≡ UnknownEscape start len → Escape g.input start len) (decode g initial).out.issues

-- from s to t text and issues are only appended, each issue at the end of the text that is written by then
pub record Grown (s t : State) : Type 0 where
  pub text : List ℕ
  pub written : t.out.text ≡ s.out.text ++ text
  pub issues : List Issue
  pub reported : t.out.issues ≡ s.out.issues ++ issues
  pub placed : Placed s.out.text issues t.out.text

-- so by every run of R
abbrev pub Grows : Run → Type 0
Grows R = (b : List ℕ) (base origin : ℕ) (s : State) → Grown s (R b base origin s)

-- "Issues are in order of report": a step and a run take nothing back, nor does the release at the end
pub record IssuesOnlyGrow : Type 0 where
  pub step : (g : Given) (left : ℕ) (R : Run) → Grows R → (x : ℕ) (rest : List ℕ) (place at : ℕ) (s : State) → Grown s (step g left R x rest place at s).to
  pub steps : (g : Given) (left : ℕ) (R : Run) → Grows R → (base origin : ℕ) (b : List ℕ) (i k : ℕ) (s : State) → Grown s (steps g left R base origin b i k s)
  pub run : (g : Given) (left : ℕ) → Grows (run g left)
  pub released : (s : State) → Grown s (writes release s)

-- "Does the whole text .. fit its buffer ..? If no, 8. Do the issues fit? If no, 9": by the length of the whole text and the number of all issues,
-- of which the buffer holds a fifth of its length, rounded down
pub record Question89 (c : Lent) : Type 0 where
  pub eight : c.text_room < length (text_bytes c) → fits c ≡ 8
  pub nine : length (text_bytes c) ≤ c.text_room → c.issue_room / numbers < length (reading c).out.issues → fits c ≡ 9
  pub none : length (text_bytes c) ≤ c.text_room → length (reading c).out.issues ≤ c.issue_room / numbers → fits c ≡ 0
  pub each : length (issue_list c) ≡ length (reading c).out.issues * numbers

-- "The table of twelve": the eight rows that decode
abbrev pub TableOfTwelveReading : Type 0
TableOfTwelveReading = Rows
