-- No step depends on the text and the issues before it: behind an earlier text and earlier issues a reading goes as without them, and its issues stand
-- later in the text by that text's length. Request 9 of docs/REQUESTS.md stands on this. proofs/Behind.antt proves the law under its name.
use Rattle.std.specs.Prelude.{ℕ, ◌+◌, ◌≡◌, List, ◌++◌, map, length}
use Rattle.utf8.specs.Utf8.{utf8s}
use Rattle.issues.specs.Issue.{Issue}
use Rattle.decode_output.specs.Output.{Output, release}
use Rattle.reading.specs.State.{Given, State, took, writes}
use Rattle.reading.specs.Macros.{Run}
use Rattle.reading.specs.Steps.{step, steps, run}

-- an issue that stands n bytes later in the text
unfoldable pub later : ℕ → Issue → Issue
later n i = record { offset = i.offset; kind = i.kind; position = n + i.position }

-- what was written, behind a text and issues before it
unfoldable pub behind : List ℕ → List Issue → Output → Output
unfolding later utf8s
behind text issues o =
    record { text = text ++ o.text; marks = o.marks; marks_at = o.marks_at; repeat = o.repeat; issues = issues ++ map (later (length (utf8s text))) o.issues }

-- R runs bodies alike behind every text
abbrev pub RunsAlike : Run → Type 0
RunsAlike R = (text : List ℕ) (issues : List Issue) (b : List ℕ) (base origin : ℕ) (s : State)
    → R b base origin (writes (behind text issues) s) ≡ writes (behind text issues) (R b base origin s)

-- the law: of a step, of steps, of a run, and of the release at the end
pub record ReadsAlike : Type 0 where
  pub step : (g : Given) (left : ℕ) (R : Run) → RunsAlike R → (text : List ℕ) (issues : List Issue) (x : ℕ) (rest : List ℕ) (place at : ℕ) (s : State)
      → step g left R x rest place at (writes (behind text issues) s)
      ≡ took (step g left R x rest place at s).used (writes (behind text issues) (step g left R x rest place at s).to)
  pub steps : (g : Given) (left : ℕ) (R : Run) → RunsAlike R → (text : List ℕ) (issues : List Issue) (base origin : ℕ) (b : List ℕ) (i k : ℕ) (s : State)
      → steps g left R base origin b i k (writes (behind text issues) s) ≡ writes (behind text issues) (steps g left R base origin b i k s)
  pub run : (g : Given) (left : ℕ) → RunsAlike (run g left)
  pub released : (text : List ℕ) (issues : List Issue) (s : State) → writes release (writes (behind text issues) s) ≡ writes (behind text issues) (writes release s)
