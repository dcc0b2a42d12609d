-- What a step may do to what the laws speak of, and each way to write. Assumes nothing.
use mathlib.Core.Path.{◌≡◌, refl, sym, ap, ◌∙◌, subst}
use mathlib.Core.List.{List, [], ◌∷◌, ◌++◌, append_assoc, append-nil}
use Prim.Native.Nat.{ℕ, zero, suc, ◌+◌, ◌-◌, ◌*◌, ◌≤◌, ◌<◌, min}
use native.Mathlib.Omega.{arith}
use lib.ListN.{length, replicate, length-append, length-replicate}
use Rattle.issues.specs.Issue.{Issue}
use Rattle.issues.specs.declared.IssueKind.{IssueKind}
use Rattle.issues.specs.declared.IssueKind.TheVariants.{
  UnknownEscape,
  UndefinedControl,
  MalformedControl,
  Truncated,
  UndefinedCode,
  UnsupportedCode,
  Drcs,
  Mosaic,
  UndefinedMacro,
  MacroLimit,
  LoneSingleShift,
  DanglingNonSpacing,
  RepeatToEndOfLine,
}
use Rattle.decode_output.specs.Output.{Output, times, emit, mark, first_at, position, report, release, release_of, newline, set_repeat}
use Rattle.reading.specs.State.{State}
use Rattle.base.specs.Lists.{All}
use Rattle.laws_reading.specs.Positions.{Placed}
use Rattle.laws_reading.specs.Reading.{Escape}
use Rattle.base.proofs.Every.{all_append}
use Rattle.laws_reading.proofs.Placed.{placed_none, placed_one, placed_then}

-- the parts of a state that the laws speak of
pub record Part : Type 0 where
  pub charged : ℕ
  pub out : Output

abbrev pub part : State → Part
part s = record { charged = s.charged; out = s.out }

-- the same with o written
abbrev pub puts : Output → Part → Part
puts o p = record { charged = p.charged; out = o }

-- what an issue's kind says of the input
abbrev pub Shown : List ℕ → IssueKind → Type 0
Shown input (UnknownEscape start len) = Escape input start len
Shown input (UndefinedControl code) = Unit {0}
Shown input (MalformedControl code) = Unit {0}
Shown input Truncated = Unit {0}
Shown input (UndefinedCode set code) = Unit {0}
Shown input (UnsupportedCode set code) = Unit {0}
Shown input (Drcs n code) = Unit {0}
Shown input (Mosaic set code) = Unit {0}
Shown input (UndefinedMacro code) = Unit {0}
Shown input MacroLimit = Unit {0}
Shown input LoneSingleShift = Unit {0}
Shown input DanglingNonSpacing = Unit {0}
Shown input RepeatToEndOfLine = Unit {0}

-- an issue that the input can have
pub record Fit (input : List ℕ) (i : Issue) : Type 0 where
  pub offset : i.offset < length input
  pub shown : Shown input i.kind

-- what holds between steps; the marks that wait have a first one's offset
pub record Bounded (input : List ℕ) (p : Part) : Type 0 where
  pub charge : p.charged ≤ 64 * length input + 4096
  pub issues : All (Fit input) p.out.issues
  pub marks : p.out.marks_at + min 1 (length p.out.marks) ≤ length input
  pub repeat : p.out.repeat ≤ 63

-- Characters written and waiting, and what a waiting repeat will write beyond the 21 that the next character's byte pays: at most 42, which RPC's two
-- bytes pay.
abbrev pub weight : Output → ℕ
weight o = length o.text + length o.marks + (o.repeat - 21)

-- what held holds, and 21 for each of u bytes and for each one charged pay what was written
pub record Kept (input : List ℕ) (u : ℕ) (p q : Part) : Type 0 where
  pub fine : Bounded input q
  pub paid : weight q.out + 21 * p.charged ≤ weight p.out + 21 * (u + q.charged)

-- u bytes lead from p to q: text and issues are only appended to, each issue where the text ends by then; and where C is given (that the bytes are the input's, say) what held holds
pub record Change (C : Type 0) (input : List ℕ) (u : ℕ) (p q : Part) : Type 0 where
  pub issues : List Issue
  pub reported : q.out.issues ≡ p.out.issues ++ issues
  pub placed : Placed p.out.text issues q.out.text
  pub keeps : C → Bounded input p → Kept input u p q

module _ (C : Type 0) (input : List ℕ) where
  pub stays : (u : ℕ) (p : Part) → Change C input u p p
  stays u p =
      record {
        issues = [];
        reported = sym (append-nil _);
        placed = placed_none p.out.text [] (sym (append-nil _));
        keeps = λ c f. record { fine = f; paid = omega arith };
      }

  pub follows : (u v w : ℕ) (p q r : Part) → u + v ≤ w → Change C input u p q → Change C input v q r → Change C input w p r
  follows u v w p q r h a b =
      record {
        issues = a.issues ++ b.issues;
        reported = b.reported ∙ (ap (λ (l : List Issue). l ++ b.issues) a.reported ∙ append_assoc p.out.issues a.issues b.issues);
        placed = placed_then p.out.text q.out.text r.out.text a.issues b.issues a.placed b.placed;
        keeps = λ c f. let x = a.keeps c f in let y = b.keeps c x.fine in record { fine = y.fine; paid = omega arith };
      }

  pub more : (u w : ℕ) (p q : Part) → u ≤ w → Change C input u p q → Change C input w p q
  more u w p q h a =
      record {
        issues = a.issues;
        reported = a.reported;
        placed = a.placed;
        keeps = λ c f. let x = a.keeps c f in
            record { fine = x.fine; paid = omega arith };
      }

  -- an issue is reported
  pub reports : (at : ℕ) (kind : IssueKind) (p : Part) → (C → at < length input) → (C → Shown input kind) → Change C input 0 p (puts (report at kind p.out) p)
  unfolding report
  reports at kind p inside shown =
      record {
        issues = record { offset = at; kind = kind; position = position p.out } ∷ [];
        reported = refl;
        placed = placed_one p.out.text (record { offset = at; kind = kind; position = position p.out }) refl;
        keeps = λ c f.
            record {
              fine =
                  record {
                    charge = f.charge;
                    issues = all_append (Fit input) p.out.issues _ f.issues (record { offset = inside c; shown = shown c }, tt);
                    marks = f.marks;
                    repeat = f.repeat;
                  };
              paid = omega arith;
            };
      }

  -- what is written where no issue is reported
  silent : (u : ℕ) (p : Part) (o : Output) (text : List ℕ) → o.text ≡ p.out.text ++ text → o.issues ≡ p.out.issues →
      (C → Bounded input p → (o.marks_at + min 1 (length o.marks) ≤ length input) × (o.repeat ≤ 63) × (weight o ≤ weight p.out + 21 * u)) → Change C input u p (puts o p)
  silent u p o text e i k =
      record {
        issues = [];
        reported = i ∙ sym (append-nil _);
        placed = placed_none p.out.text text e;
        keeps =
            λ c f. record {
              fine = record { charge = f.charge; issues = subst (All (Fit input)) (sym i) f.issues; marks = (k c f).0; repeat = (k c f).1 };
              paid = omega (arith, (k c f).2);
            };
      }

  pub emits : (c : ℕ) (p : Part) → Change C input 1 p (puts (emit c p.out) p)
  unfolding emit
  emits c p =
      silent 1 p (emit c p.out) (replicate (times p.out.repeat) c ++ p.out.marks) refl refl
      (λ d f. (omega arith, omega arith, rw (length-append, length-append, length-replicate) (omega (arith, few p.out.repeat))))
    where
      few : (n : ℕ) → times n ≤ n - 21 + 21
      few zero = omega arith
      few (suc n) = omega arith

  pub marks : (m at : ℕ) (p : Part) → (C → at < length input) → Change C input 1 p (puts (mark m at p.out) p)
  unfolding mark
  marks m at p inside =
      silent 1 p (mark m at p.out) [] (sym (append-nil _)) refl
      (λ c f. (rw length-append (go p.out.marks f.marks (inside c)), f.repeat, rw length-append (omega arith)))
    where
      go : (ms : List ℕ) → p.out.marks_at + min 1 (length ms) ≤ length input → at < length input → first_at ms p.out.marks_at at + min 1 (length ms + 1) ≤ length input
      go [] a b = omega arith
      go (x ∷ ms) a b = omega arith

  pub repeats : (n : ℕ) (p : Part) → n ≤ 63 → Change C input 2 p (puts (set_repeat n p.out) p)
  unfolding set_repeat
  repeats n p h = silent 2 p (set_repeat n p.out) [] (sym (append-nil _)) refl (λ c f. (f.marks, h, omega arith))

  pub clears : (p : Part) → Change C input 0 p (puts (set_repeat 0 p.out) p)
  unfolding set_repeat
  clears p = silent 0 p (set_repeat 0 p.out) [] (sym (append-nil _)) refl (λ c f. (f.marks, omega arith, omega arith))

-- what held before may be used
pub given : (C : Type 0) (input : List ℕ) (u : ℕ) (p q : Part) → Change (C × Bounded input p) input u p q → Change C input u p q
given C input u p q a = record { issues = a.issues; reported = a.reported; placed = a.placed; keeps = λ c f. a.keeps (c, f) f }

module _ (C : Type 0) (input : List ℕ) where
  -- the marks are released
  pub releases : (p : Part) → Change C input 0 p (puts (release p.out) p)
  unfolding release
  releases p = given C input 0 p (puts (release p.out) p) (go p.out.marks refl)
    where
      go : (ms : List ℕ) → p.out.marks ≡ ms → Change (C × Bounded input p) input 0 p (puts (release_of ms p.out) p)
      go [] e = stays (C × Bounded input p) input 0 p
      go (m ∷ ms) e =
          let q = puts (report p.out.marks_at DanglingNonSpacing p.out) p in
          follows (C × Bounded input p) input 0 0 0 p q _ (omega arith)
          (reports (C × Bounded input p) input p.out.marks_at DanglingNonSpacing p (λ c. omega (arith, c.1.marks, ap length e)) (λ c. tt))
          (silent (C × Bounded input p) input 0 q (release_of (m ∷ ms) p.out) (m ∷ ms) refl refl
          (λ c f. (omega arith, f.repeat, rw length-append (omega (arith, ap length e)))))

  -- a newline follows them
  pub newlines : (p : Part) → Change C input 1 p (puts (newline p.out) p)
  unfolding newline
  newlines p =
      let q = puts (release p.out) p in
      follows C input 0 1 1 p q (puts (newline p.out) p) (omega arith) (releases p)
      (silent C input 1 q (newline p.out) (0x0A ∷ []) refl refl (λ c f. (f.marks, f.repeat, rw length-append (omega arith))))
