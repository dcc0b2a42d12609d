-- The decoding call: from what was written to the answer, and the refusals.
use Prim.Native.Nat.{ℕ, zero, suc, ◌*◌, ◌≤◌, ◌<◌}
use mathlib.Core.Path.{◌≡◌, refl, sym, ap, ◌∙◌}
use mathlib.Core.List.{List, []}
use native.Mathlib.Omega.{arith}
use borrow.Author.Tests.{le-leb, lt-leb}
use lib.ListN.{length}
use lib.Seq.{length-sets}
use Rattle.utf8.specs.Utf8.{utf8s}
use Rattle.questions.specs.Questions.{first_refusal, decode_limit}
use Rattle.questions.specs.Buffer.{padded, cleared}
use Rattle.questions.proofs.Buffers.{clear_past}
use Rattle.issues.specs.Issue.{numbers, issues_numbers}
use Rattle.decode_output.proofs.Counts.{length_numbers}
use Rattle.reading.specs.State.{State}
use Rattle.reading.specs.Call.{Lent, Outcome, reading, text_bytes, issue_list, fits, refusal, outcome_of, outcome}
use Rattle.decode_read.specs.declared.Counts.{Counts}
use Rattle.decode_read.specs.Promises.{Counted, Read}
use Rattle.questions.specs.declared.refusal.Refusal.{Refusal}
use Rattle.questions.specs.declared.refusal.Refusal.TheVariants.{BufferTooSmall, IssuesTooMany}
use Rattle.questions.specs.Refusal as refusals
use Rattle.questions.proofs.Refusals.{some_number}
use Rattle.std.specs.Prelude.{Ok, Err}
use Rattle.decode.specs.Answers.{Answer, fits_in, number_of, place_of, text_of, issues_of, charged_of, private_use_of, lent, Refuses, Answers, Answered}

-- ---- the answer, from what was written

module _ (s : State) (t₀ i₀ : List ℕ) (n : Counts) (t i : List ℕ) (h : Counted s t₀ i₀ n t i) where
  as_long : length t ≡ length t₀
  as_long = ap length h.written ∙ length-sets t₀ 0 (utf8s s.out.text)

  as_many : length i ≡ length i₀
  as_many = ap length h.listed ∙ length-sets i₀ 0 (issues_numbers s.out.issues)

  refusing : (e : Refusal) (r : Answer) (t' i' : List ℕ)
      → fits_in (length (utf8s s.out.text)) (length (issues_numbers s.out.issues)) (length t₀) (length i₀) ≡ refusals.number_of e → refusals.place_of e ≡ 0
      → Refuses e t i r t' i' → Answers s (length t₀) (length i₀) r t' i'
  refusing e r t' i' q p v = record {
    number = ap number_of v.answer ∙ sym q;
    place = ap place_of v.answer ∙ p;
    case = λ z. absurd (omega (arith, some_number e, sym (ap number_of v.answer) ∙ z));
    accepted = λ z. absurd (omega (arith, some_number e, sym (ap number_of v.answer) ∙ z));
    refused = λ z. (
      ap text_of v.answer,
      ap issues_of v.answer,
      ap charged_of v.answer,
      ap private_use_of v.answer,
      v.text ∙ ap (λ (n : ℕ). padded n []) as_long,
      v.issues ∙ ap (λ (n : ℕ). padded n []) as_many,
    );
  }

  -- the text does not fit
  pub finish_8 : (r : Answer) (t' i' : List ℕ) → length t < n.text → Refuses BufferTooSmall t i r t' i' → Answers s (length t₀) (length i₀) r t' i'
  unfolding fits_in
  finish_8 r t' i' k v =
      let p : length t₀ < length (utf8s s.out.text) = omega (arith, k, h.text, as_long) in
      refusing BufferTooSmall r t' i' (rw (lt-leb _ _ p)) refl v

  -- the issues do not fit
  pub finish_9 : (r : Answer) (t' i' : List ℕ) → n.text ≤ length t → length i < n.issues * numbers → Refuses IssuesTooMany t i r t' i'
      → Answers s (length t₀) (length i₀) r t' i'
  unfolding fits_in
  finish_9 r t' i' k l v =
      let p : length (utf8s s.out.text) ≤ length t₀ = omega (arith, k, h.text, as_long) in
      let q : length i₀ < length (issues_numbers s.out.issues) = omega (arith, l, h.issues, as_many, length_numbers s.out.issues) in
      refusing IssuesTooMany r t' i' (rw (le-leb _ _ p, lt-leb _ _ q)) refl v

  -- both fit
  pub finish_0 : (t' i' : List ℕ) → n.text ≤ length t → n.issues * numbers ≤ length i → t' ≡ cleared t n.text → i' ≡ cleared i (n.issues * numbers)
      → Answers s (length t₀) (length i₀) (Ok n) t' i'
  unfolding fits_in
  finish_0 t' i' k l x y =
      let p : length (utf8s s.out.text) ≤ length t₀ = omega (arith, k, h.text, as_long) in
      let q : length (issues_numbers s.out.issues) ≤ length i₀ = omega (arith, l, h.issues, as_many, length_numbers s.out.issues) in
      let e : n.issues * numbers ≡ length (issues_numbers s.out.issues) = omega (arith, h.issues, length_numbers s.out.issues) in
      record {
        number = rw (le-leb _ _ p, le-leb _ _ q);
        place = refl;
        case = λ z. refl;
        accepted = λ z. (
          h.text,
          h.issues,
          h.charged,
          h.private_use,
          x ∙ rw (h.written, h.text) (clear_past t₀ (utf8s s.out.text) p),
          y ∙ rw (h.listed, e) (clear_past i₀ (issues_numbers s.out.issues) q),
        );
        refused = λ z. absurd (z refl);
      }

-- ---- the call

-- questions 1 to 3 are passed: the answer is that of what the reading writes
pub answered : (c : Lent) (r : Answer) (t i : List ℕ) → first_refusal c.cells c.initial c.width decode_limit (length c.input) ≡ 0
    → Answers (reading c) c.text_room c.issue_room r t i → Answered c r t i
unfolding outcome refusal fits text_bytes issue_list fits_in outcome_of
answered c r t i z v = go (fits_in (length (utf8s (reading c).out.text)) (length (issues_numbers (reading c).out.issues)) c.text_room c.issue_room) refl
  where
    same : (q : ℕ) → fits_in (length (utf8s (reading c).out.text)) (length (issues_numbers (reading c).out.issues)) c.text_room c.issue_room ≡ q → refusal c ≡ q
    same q e = rw z e

    go : (q : ℕ) → fits_in (length (utf8s (reading c).out.text)) (length (issues_numbers (reading c).out.issues)) c.text_room c.issue_room ≡ q → Answered c r t i
    go zero e =
        let w = v.accepted (v.number ∙ e) in
        let x : outcome c ≡ outcome_of zero c = ap (λ (q : ℕ). outcome_of q c) (same zero e) in
        record {
          number = v.number ∙ e ∙ sym (ap (λ (z : Outcome). z.refused) x);
          case = v.case;
          place = v.place;
          counted = w.0 ∙ sym (ap (λ (z : Outcome). z.text) x);
          reported = w.1 ∙ sym (ap (λ (z : Outcome). z.issues) x);
          charged = w.2 ∙ sym (ap (λ (z : Outcome). z.charged) x);
          private_use = w.3 ∙ sym (ap (λ (z : Outcome). z.private_use) x);
          written = w.4 ∙ sym (ap (λ (z : Outcome). z.text_buffer) x);
          listed = w.5 ∙ sym (ap (λ (z : Outcome). z.issue_buffer) x);
        }
    go (suc q) e =
        let n : number_of r ≡ suc q = v.number ∙ e in
        let w = v.refused (λ z. omega (arith, n, z)) in
        let x : outcome c ≡ outcome_of (suc q) c = ap (λ (k : ℕ). outcome_of k c) (same (suc q) e) in
        record {
          number = n ∙ sym (ap (λ (z : Outcome). z.refused) x);
          case = v.case;
          place = v.place;
          counted = w.0 ∙ sym (ap (λ (z : Outcome). z.text) x);
          reported = w.1 ∙ sym (ap (λ (z : Outcome). z.issues) x);
          charged = w.2 ∙ sym (ap (λ (z : Outcome). z.charged) x);
          private_use = w.3 ∙ sym (ap (λ (z : Outcome). z.private_use) x);
          written = w.4 ∙ sym (ap (λ (z : Outcome). z.text_buffer) x);
          listed = w.5 ∙ sym (ap (λ (z : Outcome). z.issue_buffer) x);
        }

-- one of questions 1 to 3 fails
pub refused : (c : Lent) (e : Refusal) (r : Answer) (ti ii t i : List ℕ) → refusals.number_of e ≡ first_refusal c.cells c.initial c.width decode_limit (length c.input)
    → refusals.place_of e ≡ 0 → length ti ≡ c.text_room → length ii ≡ c.issue_room → Refuses e ti ii r t i → Answered c r t i
unfolding outcome refusal outcome_of
refused c e r ti ii t i z p a b v = go (refusals.number_of e) refl
  where
    go : (q : ℕ) → refusals.number_of e ≡ q → Answered c r t i
    go zero y = absurd (omega (arith, some_number e, y))
    go (suc q) y =
        let f : refusal c ≡ suc q = rw (sym z ∙ y) in
        let x : outcome c ≡ outcome_of (suc q) c = ap (λ (n : ℕ). outcome_of n c) f in
        record {
          number = ap number_of v.answer ∙ y ∙ sym (ap (λ (y : Outcome). y.refused) x);
          case = λ w. absurd (omega (arith, some_number e, sym (ap number_of v.answer) ∙ w));
          place = ap place_of v.answer ∙ p;
          counted = ap text_of v.answer ∙ sym (ap (λ (y : Outcome). y.text) x);
          reported = ap issues_of v.answer ∙ sym (ap (λ (y : Outcome). y.issues) x);
          charged = ap charged_of v.answer ∙ sym (ap (λ (y : Outcome). y.charged) x);
          private_use = ap private_use_of v.answer ∙ sym (ap (λ (y : Outcome). y.private_use) x);
          written = v.text ∙ ap (λ (n : ℕ). padded n []) a ∙ sym (ap (λ (y : Outcome). y.text_buffer) x);
          listed = v.issues ∙ ap (λ (n : ℕ). padded n []) b ∙ sym (ap (λ (y : Outcome). y.issue_buffer) x);
        }

-- from the reading to the answer
pub checked : (cells : List ℕ) (initial width : ℕ) (input : List ℕ) {t i : List ℕ} {n : Counts} {t₁ i₁ : List ℕ} (a : Answer) {t₂ i₂ : List ℕ}
    → first_refusal cells initial width decode_limit (length input) ≡ 0 → Read cells initial width input t i n t₁ i₁
    → ((s : State) (t₀ i₀ : List ℕ) → Counted s t₀ i₀ n t₁ i₁ → Answers s (length t₀) (length i₀) a t₂ i₂) → Answered (lent cells initial width input t i) a t₂ i₂
unfolding reading
checked cells initial width input {t} {i} a z v finish = answered (lent cells initial width input t i) a _ _ z (finish _ t i v.counted)
