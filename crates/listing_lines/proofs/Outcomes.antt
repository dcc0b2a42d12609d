-- What a decoding gives, in lines: its counts are within their rooms, and each way out prints the definition's lines. Assumes nothing.
use Prim.Native.Nat.{ℕ, zero, suc, ◌+◌, ◌*◌, ◌≤◌, ◌<◌}
use mathlib.Core.Path.{◌≡◌, refl, sym, ap, ◌∙◌, subst}
use mathlib.Core.Bool.{Bool, true, false}
use mathlib.Core.List.{List}
use native.Mathlib.Omega.{arith}
use borrow.Author.Tests.{le-leb, leb-true}
use lib.Dec.{eqb, leb}
use lib.ListN.{length, take, replicate, length-replicate}
use Rattle.questions.specs.Questions.{first_refusal, decode_limit}
use Rattle.questions.proofs.Refusals.{passed}
use Rattle.issues.specs.Issue.{numbers}
use Rattle.reading.specs.Call.{Lent, Outcome, reading, text_bytes, issue_list, fits, refusal, outcome_of, outcome}
use Rattle.laws_reading.proofs.Reading.{charge_bound, question_8_9}
use Rattle.decode.specs.Answers.{Answer, number_of, text_of, issues_of, charged_of, lent, Answered}
use Rattle.jis_tab.specs.CellTable.{cell_table}
use Rattle.ascii.specs.Ascii.{refused_line}
use Rattle.listing_form.specs.Lines.{decoding_lines}
use Rattle.listing_lines.specs.Lines.{answer_lines, call, decoded_lines, listing}

-- ---- counts

pub record Bounds (c : Lent) : Type 0 where
  pub text : (outcome c).text ≤ c.text_room
  pub issues : (outcome c).issues * numbers ≤ c.issue_room
  pub charged : (outcome c).charged ≤ 64 * length c.input + 4096

refused_bounds : (c : Lent) (q : ℕ) → refusal c ≡ suc q → Bounds c
unfolding outcome outcome_of
refused_bounds c q e =
    let x : outcome c ≡ outcome_of (suc q) c = ap (λ (n : ℕ). outcome_of n c) e in
    record {
      text = omega (arith, ap (λ (o : Outcome). o.text) x);
      issues = omega (arith, ap (λ (o : Outcome). o.issues) x);
      charged = omega (arith, ap (λ (o : Outcome). o.charged) x);
    }

accepted_bounds : (c : Lent) → refusal c ≡ 0 → length (text_bytes c) ≤ c.text_room → length (issue_list c) ≤ c.issue_room → Bounds c
unfolding outcome outcome_of reading
accepted_bounds c e p q =
    let x : outcome c ≡ outcome_of zero c = ap (λ (n : ℕ). outcome_of n c) e in
    record {
      text = omega (arith, ap (λ (o : Outcome). o.text) x);
      issues = omega (arith, ap (λ (o : Outcome). o.issues) x, (question_8_9 c).each);
      charged = omega (arith, ap (λ (o : Outcome). o.charged) x, charge_bound (record { cells = c.cells; annex_e = eqb c.width 1; input = c.input }) c.initial);
    }

pub bounds : (c : Lent) → Bounds c
unfolding refusal fits
bounds c =
    go (first_refusal c.cells c.initial c.width decode_limit (length c.input)) (leb (length (text_bytes c)) c.text_room) (leb (length (issue_list c)) c.issue_room)
    refl refl refl
  where
    go : (q : ℕ) (a b : Bool) → first_refusal c.cells c.initial c.width decode_limit (length c.input) ≡ q
        → leb (length (text_bytes c)) c.text_room ≡ a → leb (length (issue_list c)) c.issue_room ≡ b → Bounds c
    go (suc q) a b z x y = refused_bounds c q (rw z)
    go zero false b z x y = refused_bounds c 7 (rw z (rw x))
    go zero true false z x y = refused_bounds c 8 (rw z (rw (x, y)))
    go zero true true z x y = accepted_bounds c (rw z (rw (x, y))) (leb-true _ _ x) (leb-true _ _ y)

-- ---- lines

-- buffers of the program's rooms
pub answered_as : (cells input : List ℕ) {a : Answer} {t i : List ℕ} → Answered (lent cells 0 0 input (replicate 65536 0) (replicate (256 * numbers) 0)) a t i →
    Answered (call cells input) a t i
answered_as cells input {a} {t} {i} v =
    subst (λ (n : ℕ). Answered (record { cells = cells; initial = 0; width = 0; input = input; text_room = 65536; issue_room = n }) a t i) (length-replicate {A = ℕ} (256 * numbers) 0)
    (subst (λ (n : ℕ). Answered (record { cells = cells; initial = 0; width = 0; input = input; text_room = n; issue_room = length {A = ℕ} (replicate (256 * numbers) 0) }) a t i)
    (length-replicate {A = ℕ} 65536 0) v)

-- what passes with 4,096 bytes passes with more
pub passes_more : (cells input : List ℕ) → first_refusal cells 0 0 4096 (length input) ≡ 0 → first_refusal cells 0 0 65535 (length input) ≡ 0
unfolding first_refusal
passes_more cells input e =
    let p = passed cells 0 0 4096 (length input) e in
    rw (p.table, le-leb (length input) 65535 (omega (arith, p.within)))

-- question 1, or more than 4,096 bytes
pub lines_first : (cells input : List ℕ) (q : ℕ) → q ≡ first_refusal cells 0 0 4096 (length input) → 0 < q → decoded_lines cells input ≡ refused_line q 0
unfolding decoded_lines
lines_first cells input zero e h = absurd (omega arith)
lines_first cells input (suc q) e h = rw (sym e)

-- an outcome that is no refusal
shown : (o : Outcome) → o.refused ≡ 0 → answer_lines o.refused o ≡ decoding_lines o.text o.issues o.charged (take o.text o.text_buffer) o.issue_buffer
unfolding answer_lines
shown o e = ap (λ (n : ℕ). answer_lines n o) e

-- what the lines of a decoding ask
pub record Within (n k g : ℕ) : Type 0 where
  pub text : n ≤ 65536
  pub issues : k ≤ 256
  pub charge : g ≤ 266240

-- the questions are passed
module _ (cells input : List ℕ) (e : first_refusal cells 0 0 4096 (length input) ≡ 0) {a : Answer} {t i : List ℕ} (v : Answered (call cells input) a t i) where
  lines_next : decoded_lines cells input ≡ answer_lines (outcome (call cells input)).refused (outcome (call cells input))
  unfolding decoded_lines
  lines_next = rw e

  -- the call refuses
  pub lines_refused : {n : ℕ} → n ≡ number_of a → 0 < n → decoded_lines cells input ≡ refused_line n 0
  unfolding answer_lines
  lines_refused {n} m k = lines_next ∙ go n (m ∙ v.number) k
    where
      go : (n : ℕ) → n ≡ (outcome (call cells input)).refused → 0 < n → answer_lines (outcome (call cells input)).refused (outcome (call cells input)) ≡ refused_line n 0
      go zero x y = absurd (omega arith)
      go (suc n) x y = rw (sym x)

  -- the call decodes
  pub lines_decoded : {z n k g : ℕ} → z ≡ number_of a → z ≤ 0 → n ≡ text_of a → k ≡ issues_of a → g ≡ charged_of a → decoded_lines cells input ≡ decoding_lines n k g (take n t) i
  lines_decoded m j x y w =
      let r : (outcome (call cells input)).refused ≡ 0 = omega (arith, m ∙ v.number) in
      lines_next ∙ shown (outcome (call cells input)) r ∙ sym (rw (x ∙ v.counted, y ∙ v.reported, w ∙ v.charged, v.written, v.listed) refl)

  pub within : {n k g : ℕ} → n ≡ text_of a → k ≡ issues_of a → g ≡ charged_of a → Within n k g
  within x y w =
      let b = bounds (call cells input) in
      let l : length input ≤ 4096 = (passed cells 0 0 4096 (length input) e).within in
      record {
        text = omega (arith, x ∙ v.counted, b.text);
        issues = omega (arith, y ∙ v.reported, b.issues);
        charge = omega (arith, w ∙ v.charged, b.charged);
      }

-- a cell table
pub listing_as : (present : Bool) (table input cells : List ℕ) → cells ≡ cell_table present table → listing present table input ≡ decoded_lines cells input
unfolding listing
listing_as present table input cells e = ap (λ (l : List ℕ). decoded_lines l input) (sym e)
