-- Where issues stand in the text: request 4 of docs/REQUESTS.md, "the byte position in the text at the moment of report, before the placeholder or marks it
-- brings, waiting marks not counted". The laws, as statements; proofs/Positions.antt and, for steps, proofs/Bodies.antt prove each under its name.
use Rattle.std.specs.Prelude.{ℕ, ◌≤◌, ◌≡◌, List, [], ◌∷◌, ◌++◌, length, take, drop}
use Rattle.std.proofs.Math.Option.{none, some}
use Rattle.base.specs.Lists.{All}
use Rattle.utf8.specs.Utf8.{utf8s}
use Rattle.issues.specs.Issue.{Issue}
use Rattle.decode_output.specs.Output.{position, release}
use Rattle.reading.specs.State.{Given, State, writes}
use Rattle.reading.specs.Macros.{Run}
use Rattle.reading.specs.Steps.{step, decode}
use Rattle.laws_reading.specs.Bodies.{Begun, begun}

-- From the text `before` to the text `after` these issues are reported, in this order, each at the end of what is written by then.
abbrev pub Placed : List ℕ → List Issue → List ℕ → Type 0
Placed before [] after = (text : List ℕ) × (after ≡ before ++ text)
Placed before (i ∷ is) after = (text : List ℕ) × (i.position ≡ length (utf8s (before ++ text))) × Placed (before ++ text) is after

-- from s to t issues are reported, all at the end of the text of s
pub record ReportedAt (s t : State) : Type 0 where
  pub issues : List Issue
  pub reported : t.out.issues ≡ s.out.issues ++ issues
  pub placed : All (λ i. i.position ≡ position s.out) issues

-- "The text before the position is what the steps before the issue wrote": a step that runs no body reports at the end of the text that it finds, and so
-- does the release at the end. One that runs a body has written and reported nothing when the steps of the body begin.
pub record TextBefore : Type 0 where
  pub step : (g : Given) (left : ℕ) (R : Run) (x : ℕ) (rest : List ℕ) (place at : ℕ) (s : State) → begun g left x rest place s ≡ none
      → ReportedAt s (step g left R x rest place at s).to
  pub body : (g : Given) (left x : ℕ) (rest : List ℕ) (place : ℕ) (s : State) (b : Begun) → begun g left x rest place s ≡ some b → b.from.out ≡ s.out
  pub released : (s : State) → ReportedAt s (writes release s)

-- every position is at most the text's length
abbrev pub PositionsInside : Type 0
PositionsInside = (g : Given) (initial : ℕ) → All (λ i. i.position ≤ length (utf8s (decode g initial).out.text)) (decode g initial).out.issues

-- no issue has a smaller position than one before it
abbrev pub NeverFall : List Issue → Type 0
NeverFall [] = Unit {0}
NeverFall (i ∷ is) = All (λ j. i.position ≤ j.position) is × NeverFall is

abbrev pub PositionsNeverFall : Type 0
PositionsNeverFall = (g : Given) (initial : ℕ) → NeverFall (decode g initial).out.issues

-- a text that is cut at a byte: the characters before it and those behind it, so that none is cut
pub record CutAt (text : List ℕ) (byte : ℕ) : Type 0 where
  pub before : List ℕ
  pub after : List ℕ
  pub whole : text ≡ before ++ after
  pub first : take byte (utf8s text) ≡ utf8s before
  pub second : drop byte (utf8s text) ≡ utf8s after

-- an editor can cut the text at every position
abbrev pub PositionsCut : Type 0
PositionsCut = (g : Given) (initial : ℕ) → All (λ i. CutAt (decode g initial).out.text i.position) (decode g initial).out.issues

-- a position is a number of 32 bits, for every input that question 3 lets through
abbrev pub PositionsSmall : Type 0
PositionsSmall = (g : Given) (initial : ℕ) → length g.input ≤ 65535 → All (λ i. i.position ≤ 0xFFFFFFFF) (decode g initial).out.issues
