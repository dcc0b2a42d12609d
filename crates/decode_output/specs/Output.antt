-- What a reading has written so far, and what waits: 01, "Reading", and request 4 of docs/REQUESTS.md, where an issue stands in the text.
use Rattle.std.specs.Prelude.{ℕ, zero, suc, List, [], ◌∷◌, ◌++◌, length, replicate}
use Rattle.utf8.specs.Utf8.{utf8s}
use Rattle.issues.specs.Issue.{Issue}
use Rattle.issues.specs.declared.IssueKind.{IssueKind}
use Rattle.issues.specs.declared.IssueKind.TheVariants.{DanglingNonSpacing}

-- the characters written, the marks that wait with the first one's offset (0 where none waits), the waiting repeat (0 where none waits), and the
-- issues in order of report
pub record Output : Type 0 where
  pub text : List ℕ
  pub marks : List ℕ
  pub marks_at : ℕ
  pub repeat : ℕ
  pub issues : List Issue

-- nothing yet
unfoldable pub nothing : Output
nothing = record { text = []; marks = []; marks_at = 0; repeat = 0; issues = [] }

-- how often the next character is written
unfoldable pub times : ℕ → ℕ
times zero = 1
times (suc n) = suc n

-- c is written n times: "Marks wait and follow the next emitted character, once, after its last repeat"
unfoldable pub emit_times : ℕ → ℕ → Output → Output
emit_times n c o = record { text = o.text ++ (replicate n c ++ o.marks); marks = []; marks_at = 0; repeat = 0; issues = o.issues }

-- "A waiting count multiplies the next emitted character or placeholder"
unfoldable pub emit : ℕ → Output → Output
unfolding times emit_times
emit c o = emit_times (times o.repeat) c o

-- the offset of the first of the marks ms and one more at `at`
unfoldable pub first_at : List ℕ → ℕ → ℕ → ℕ
first_at [] first at = at
first_at (m ∷ ms) first at = first

-- a mark waits; a waiting count multiplies no mark, and stays
unfoldable pub mark : ℕ → ℕ → Output → Output
unfolding first_at
mark m at o = record { text = o.text; marks = o.marks ++ (m ∷ []); marks_at = first_at o.marks o.marks_at at; repeat = o.repeat; issues = o.issues }

-- "the byte position in the text at the moment of report, .. waiting marks not counted"
unfoldable pub position : Output → ℕ
unfolding utf8s
position o = length (utf8s o.text)

-- "Issues are in order of report"
unfoldable pub report : ℕ → IssueKind → Output → Output
unfolding position
report at kind o =
    record {
      text = o.text;
      marks = o.marks;
      marks_at = o.marks_at;
      repeat = o.repeat;
      issues = o.issues ++ (record { offset = at; kind = kind; position = position o } ∷ []);
    }

-- "before a newline or the end they are released with DanglingNonSpacing at the first one's offset"; decode.rs, `flush_dangling`: the report comes
-- first, while the marks still wait, so that the position is "before the .. marks it brings"
unfoldable pub release_of : List ℕ → Output → Output
unfolding report
release_of [] o = o
release_of (m ∷ ms) o =
    let r = report o.marks_at DanglingNonSpacing o in
    record { text = r.text ++ (m ∷ ms); marks = []; marks_at = 0; repeat = r.repeat; issues = r.issues }

unfoldable pub release : Output → Output
unfolding release_of
release o = release_of o.marks o

-- APR is U+000A: "Newline (0D) changes neither size nor a waiting repeat"
unfoldable pub newline : Output → Output
unfolding release
newline o = let r = release o in record { text = r.text ++ (0x0A ∷ []); marks = r.marks; marks_at = r.marks_at; repeat = r.repeat; issues = r.issues }

-- the waiting repeat becomes n, 0 for none
unfoldable pub set_repeat : ℕ → Output → Output
set_repeat n o = record { text = o.text; marks = o.marks; marks_at = o.marks_at; repeat = n; issues = o.issues }
