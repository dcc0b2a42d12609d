-- Each way to write goes alike behind an earlier text and earlier issues. Assumes nothing.
use mathlib.Core.Path.{◌≡◌, refl, sym, ap, ◌∙◌}
use mathlib.Core.List.{List, [], ◌∷◌, ◌++◌, map, append_assoc, map-append}
use Prim.Native.Nat.{ℕ, ◌+◌}
use lib.ListN.{length, replicate, length-append}
use Rattle.utf8.specs.Utf8.{utf8s}
use Rattle.utf8.proofs.Bytes.{utf8s_append}
use Rattle.issues.specs.Issue.{Issue}
use Rattle.issues.specs.declared.IssueKind.{IssueKind}
use Rattle.issues.specs.declared.IssueKind.TheVariants.{DanglingNonSpacing}
use Rattle.decode_output.specs.Output.{Output, times, emit, mark, position, report, release, release_of, newline, set_repeat}
use Rattle.reading.specs.State.{State, Step, took, writes, issue, placeholder}
use Rattle.laws_behind.specs.Behind.{later, behind}

-- t is the state s behind the text and the issues; v is the step w there
pub record Alike (text : List ℕ) (issues : List Issue) (s t : State) : Type 0 where
  pub same : t ≡ writes (behind text issues) s

pub record StepAlike (text : List ℕ) (issues : List Issue) (w v : Step) : Type 0 where
  pub same : v ≡ took w.used (writes (behind text issues) w.to)

-- an issue at a position
abbrev told : ℕ → IssueKind → ℕ → Issue
told at kind p = record { offset = at; kind = kind; position = p }

module _ (text : List ℕ) (issues : List Issue) where
  -- ---- what was written

  position_behind : (o : Output) → position (behind text issues o) ≡ length (utf8s text) + position o
  unfolding position behind
  position_behind o = ap length (utf8s_append text o.text) ∙ length-append (utf8s text) (utf8s o.text)

  issues_behind : (at : ℕ) (kind : IssueKind) (o : Output) → (report at kind (behind text issues o)).issues ≡ (behind text issues (report at kind o)).issues
  unfolding report behind later
  issues_behind at kind o =
      let own = map (later (length (utf8s text))) o.issues in
      append_assoc issues own (told at kind (position (behind text issues o)) ∷ [])
      ∙ (ap (λ (p : ℕ). issues ++ (own ++ (told at kind p ∷ []))) (position_behind o)
      ∙ ap (λ (l : List Issue). issues ++ l) (sym (map-append (later (length (utf8s text))) o.issues (told at kind (position o) ∷ []))))

  report_behind : (at : ℕ) (kind : IssueKind) (o : Output) → report at kind (behind text issues o) ≡ behind text issues (report at kind o)
  unfolding report behind
  report_behind at kind o =
      λ k. record { text = text ++ o.text; marks = o.marks; marks_at = o.marks_at; repeat = o.repeat; issues = issues_behind at kind o k }

  emit_behind : (c : ℕ) (o : Output) → emit c (behind text issues o) ≡ behind text issues (emit c o)
  unfolding emit behind
  emit_behind c o =
      λ k. record {
        text = append_assoc text o.text (replicate (times o.repeat) c ++ o.marks) k;
        marks = [];
        marks_at = 0;
        repeat = 0;
        issues = issues ++ map (later (length (utf8s text))) o.issues;
      }

  mark_behind : (m at : ℕ) (o : Output) → mark m at (behind text issues o) ≡ behind text issues (mark m at o)
  unfolding mark behind
  mark_behind m at o = refl

  repeat_behind : (n : ℕ) (o : Output) → set_repeat n (behind text issues o) ≡ behind text issues (set_repeat n o)
  unfolding set_repeat behind
  repeat_behind n o = refl

  release_behind : (o : Output) → release (behind text issues o) ≡ behind text issues (release o)
  unfolding release behind
  release_behind o = go o.marks
    where
      go : (ms : List ℕ) → release_of ms (behind text issues o) ≡ behind text issues (release_of ms o)
      go [] = refl
      go (m ∷ ms) =
          λ k. record {
            text = append_assoc text o.text (m ∷ ms) k;
            marks = [];
            marks_at = 0;
            repeat = o.repeat;
            issues = issues_behind o.marks_at DanglingNonSpacing o k;
          }

  newline_behind : (o : Output) → newline (behind text issues o) ≡ behind text issues (newline o)
  unfolding newline behind
  newline_behind o =
      ap line (release_behind o)
      ∙ (λ k. record {
        text = append_assoc text (release o).text (0x0A ∷ []) k;
        marks = (release o).marks;
        marks_at = (release o).marks_at;
        repeat = (release o).repeat;
        issues = issues ++ map (later (length (utf8s text))) (release o).issues;
      })
    where
      line : Output → Output
      line r = record { text = r.text ++ (0x0A ∷ []); marks = r.marks; marks_at = r.marks_at; repeat = r.repeat; issues = r.issues }

  -- ---- a state

  wrote : (f : Output → Output) → ((o : Output) → f (behind text issues o) ≡ behind text issues (f o)) → (s : State)
      → Alike text issues (writes f s) (writes f (writes (behind text issues) s))
  unfolding writes
  wrote f e s =
      record {
        same = λ k. record {
          sets = s.sets;
          gl = s.gl;
          gr = s.gr;
          narrow = s.narrow;
          starts = s.starts;
          lens = s.lens;
          charged = s.charged;
          out = e s.out k;
        };
      }

  -- one change after another
  pub then : (f : State → State) {s t : State} → Alike text issues s t → Alike text issues (f s) (f (writes (behind text issues) s)) → Alike text issues (f s) (f t)
  then f h k = record { same = ap f h.same ∙ k.same }

  module _ (s : State) where
    pub emits : (c : ℕ) → Alike text issues (writes (emit c) s) (writes (emit c) (writes (behind text issues) s))
    emits c = wrote (emit c) (emit_behind c) s

    pub marked : (m at : ℕ) → Alike text issues (writes (mark m at) s) (writes (mark m at) (writes (behind text issues) s))
    marked m at = wrote (mark m at) (mark_behind m at) s

    pub repeats : (n : ℕ) → Alike text issues (writes (set_repeat n) s) (writes (set_repeat n) (writes (behind text issues) s))
    repeats n = wrote (set_repeat n) (repeat_behind n) s

    pub releases : Alike text issues (writes release s) (writes release (writes (behind text issues) s))
    releases = wrote release release_behind s

    pub newlines : Alike text issues (writes newline s) (writes newline (writes (behind text issues) s))
    newlines = wrote newline newline_behind s

    pub issued : (at : ℕ) (kind : IssueKind) → Alike text issues (issue at kind s) (issue at kind (writes (behind text issues) s))
    unfolding issue
    issued at kind = wrote (report at kind) (report_behind at kind) s

  pub placed : (s : State) (at : ℕ) (kind : IssueKind) → Alike text issues (placeholder at kind s) (placeholder at kind (writes (behind text issues) s))
  unfolding placeholder issue
  placed s at kind = then (writes (emit 0xFFFD)) (issued s at kind) (emits (issue at kind s) 0xFFFD)

  -- ---- a step

  pub takes : (n : ℕ) {s t : State} → Alike text issues s t → StepAlike text issues (took n s) (took n t)
  takes n h = record { same = ap (took n) h.same }
