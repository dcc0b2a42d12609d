-- The laws of reading, by name: specs/Reading.antt states them. Assumes nothing.
use mathlib.Core.Path.{◌≡◌, sym, ap, subst}
use mathlib.Core.List.{List, [], append-nil}
use Prim.Native.Nat.{ℕ, zero, suc, ◌≤◌, ◌<◌}
use native.Mathlib.Omega.{arith}
use borrow.Author.Tests.{le-leb, lt-leb}
use lib.ListN.{length, length-append}
use Rattle.issues.specs.declared.IssueKind.TheVariants.{UnknownEscape}
use Rattle.decode_output.specs.Output.{nothing, release}
use Rattle.decode_output.proofs.Counts.{length_numbers}
use Rattle.reading.specs.State.{Given, State, start, writes}
use Rattle.reading.specs.Macros.{Run}
use Rattle.reading.specs.Steps.{step, steps, run, decode}
use Rattle.reading.specs.Call.{Lent, reading, text_bytes, issue_list, fits}
use Rattle.reading.specs.Examples.{rows}
use Rattle.laws_reading.specs.Reading.{ChargeBound, OffsetsInside, CharactersBound, Escape, EscapesInside, Grown, Grows, IssuesOnlyGrow, Question89, TableOfTwelveReading}
use Rattle.laws_reading.proofs.Changes.{part, Shown, Fit, Bounded, Kept, Change, stays, follows, releases}
use Rattle.laws_reading.proofs.Placed.{placed_begins}
use Rattle.base.proofs.Every.{all_map}
use Rattle.laws_reading.proofs.Macros.{Runs}
use Rattle.laws_reading.proofs.Steps.{step_good, steps_to_lem, runs_to}

-- what a decoding keeps, whole
module _ (g : Given) (initial : ℕ) where
  started : Bounded g.input (part (start initial))
  unfolding start nothing
  started = record { charge = omega arith; issues = tt; marks = omega arith; repeat = omega arith }

  -- all steps, and the release of the marks
  pub decode_change : Change (Unit {0}) g.input (length g.input) (part (start initial)) (part (decode g initial))
  unfolding decode run writes
  decode_change =
      follows (Unit {0}) g.input _ 0 (length g.input) (part (start initial)) (part (run g 4 g.input 0 0 (start initial))) _ (omega arith)
      (steps_to_lem (Unit {0}) g 4 (run g 3) (runs_to g 3 (Unit {0})) 0 0 g.input 0 0 (start initial) (λ c. omega arith) (λ c. record { after = []; bytes = sym (append-nil g.input) })
      ).change
      (releases (Unit {0}) g.input (part (run g 4 g.input 0 0 (start initial))))

  decode_kept : Kept g.input (length g.input) (part (start initial)) (part (decode g initial))
  decode_kept = decode_change.keeps tt started

pub charge_bound : ChargeBound
charge_bound g initial = (decode_kept g initial).fine.charge

pub offsets_inside : OffsetsInside
offsets_inside g initial = all_map (Fit g.input) (λ i. i.offset < length g.input) (decode g initial).out.issues (λ i f. f.offset) (decode_kept g initial).fine.issues

pub characters_bound : CharactersBound
unfolding start
characters_bound g initial = omega (arith, (decode_kept g initial).paid)

pub escapes_inside : EscapesInside
escapes_inside g initial =
    all_map (Fit g.input) (λ i. (start len : ℕ) → i.kind ≡ UnknownEscape start len → Escape g.input start len) (decode g initial).out.issues
    (λ i f start len e. subst (Shown g.input) e f.shown) (decode_kept g initial).fine.issues

grown : (input : List ℕ) (u : ℕ) (s t : State) → Change ⊥ input u (part s) (part t) → Grown s t
grown input u s t c =
    let b = placed_begins s.out.text t.out.text c.issues c.placed in
    record { text = b.0; written = b.1; issues = c.issues; reported = c.reported; placed = c.placed }

module _ (g : Given) (R : Run) (grows : Grows R) where
  deeper : Runs ⊥ g R
  deeper b base at s body inside =
      let a = grows b base (suc at) s in
      record { change = record { issues = a.issues; reported = a.reported; placed = a.placed; keeps = λ c. absurd c } }

  step_grows : (left x : ℕ) (rest : List ℕ) (place at : ℕ) (s : State) → Grown s (step g left R x rest place at s).to
  step_grows left x rest place at s = grown g.input _ s _ (step_good ⊥ g left R deeper x rest place at s (λ c. absurd c) (λ c. absurd c)).to.change

  steps_grow : (left base origin : ℕ) (b : List ℕ) (i k : ℕ) (s : State) → Grown s (steps g left R base origin b i k s)
  steps_grow left base origin b i k s = grown g.input _ s _ (steps_to_lem ⊥ g left R deeper base origin b i k s (λ c. absurd c) (λ c. absurd c)).change

-- nothing is appended
pub same : (s : State) → Grown s s
same s = grown [] 0 s s (stays ⊥ [] 0 (part s))

run_grows : (g : Given) (left : ℕ) → Grows (run g left)
unfolding run
run_grows g zero b base origin s = steps_grow g (λ b₁ base₁ origin₁ s₁. s₁) (λ b₁ base₁ origin₁ s₁. same s₁) zero base origin b 0 0 s
run_grows g (suc left) b base origin s = steps_grow g (run g left) (run_grows g left) (suc left) base origin b 0 0 s

pub issues_only_grow : IssuesOnlyGrow
unfolding writes
issues_only_grow =
    record {
      step = λ g left R grows. step_grows g R grows left;
      steps = λ g left R grows. steps_grow g R grows left;
      run = run_grows;
      released = λ s. grown [] 0 s (writes release s) (releases ⊥ [] (part s));
    }

-- where there are n issues, there are as many later
pub has_later : {s t : State} {n : ℕ} → Grown s t → n ≤ length s.out.issues → n ≤ length t.out.issues
has_later {s = s} w h = omega (arith, h, ap length w.reported, length-append s.out.issues w.issues)

pub question_8_9 : (c : Lent) → Question89 c
unfolding fits issue_list
question_8_9 c =
    let each = length_numbers (reading c).out.issues in
    record {
      eight = λ h. rw (lt-leb (length (text_bytes c)) c.text_room h);
      nine = λ h k. rw (le-leb (length (text_bytes c)) c.text_room h, lt-leb (length (issue_list c)) c.issue_room (omega (arith, each, k)));
      none = λ h k. rw (le-leb (length (text_bytes c)) c.text_room h, le-leb (length (issue_list c)) c.issue_room (omega (arith, each, k)));
      each = each;
    }

pub table_of_twelve_reading : TableOfTwelveReading
table_of_twelve_reading = rows
