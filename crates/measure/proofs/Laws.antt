-- The measuring call beside decoding, by name: specs/Laws.antt states them. Assumes nothing.
use Prim.Native.Nat.{ℕ, zero, suc, ◌*◌, ◌/◌, ◌≤◌, ◌<◌}
use mathlib.Core.Path.{◌≡◌, refl, sym, ap, ◌∙◌}
use native.Mathlib.Omega.{arith}
use lib.ListN.{length}
use Rattle.issues.specs.Issue.{numbers}
use Rattle.reading.specs.Call as decoding
use Rattle.reading.specs.WithoutBuffers.{Lent, decoding_in, reading, refusal}
use Rattle.laws_reading.specs.Reading.{Question89}
use Rattle.laws_reading.proofs.Reading.{question_8_9}
use Rattle.laws_reading.proofs.Calls.{accepted, refused_by_room, refused_first}
use Rattle.measure.specs.Measure.{Outcome, outcome_of, outcome}
use Rattle.measure.specs.Laws.{decoded, SameNumbers, MeasureDecoding, MeasureRefused, LargeEnough, ExactBuffers, OneByteLess, OneIssueLess}
use Rattle.measure.proofs.Calls.{outcome_at}

module _ (c : Lent) (text_room issue_room : ℕ) where
  abbrev d : decoding.Lent
  d = decoding_in text_room issue_room c

  -- where questions 1 to 3 pass, the counts are those of the text and of the issues that decoding has
  text_as : refusal c ≡ 0 → (outcome c).text ≡ length (decoding.text_bytes d)
  unfolding outcome_of reading decoding.text_bytes
  text_as z = ap (λ (x : Outcome). x.text) (outcome_at c 0 z)

  issues_as : refusal c ≡ 0 → (outcome c).issues ≡ length (decoding.reading d).out.issues
  unfolding outcome_of reading
  issues_as z = ap (λ (x : Outcome). x.issues) (outcome_at c 0 z)

  charged_as : refusal c ≡ 0 → (outcome c).charged ≡ (decoding.reading d).charged
  unfolding outcome_of reading
  charged_as z = ap (λ (x : Outcome). x.charged) (outcome_at c 0 z)

  number_as : (q : ℕ) → refusal c ≡ q → (outcome c).refused ≡ q
  unfolding outcome_of
  number_as zero e = ap (λ (x : Outcome). x.refused) (outcome_at c zero e)
  number_as (suc q) e = ap (λ (x : Outcome). x.refused) (outcome_at c (suc q) e)

  -- in a refusal nothing is counted
  none_as : (q : ℕ) → refusal c ≡ suc q → ((outcome c).text ≡ 0) × ((outcome c).issues ≡ 0)
  unfolding outcome_of
  none_as q e = (ap (λ (x : Outcome). x.text) (outcome_at c (suc q) e), ap (λ (x : Outcome). x.issues) (outcome_at c (suc q) e))

  -- decoding is refused by its room, or by the same question
  by_room : refusal c ≡ 0 → (decoded c text_room issue_room).refused ≡ decoding.fits d
  unfolding refusal
  by_room z = refused_by_room d z

  first : (q : ℕ) → refusal c ≡ suc q → (decoded c text_room issue_room).refused ≡ suc q
  unfolding refusal
  first q z = refused_first d q z

  room : Question89 d
  room = question_8_9 d

  same : (decoded c text_room issue_room).refused ≡ 0 → SameNumbers c text_room issue_room
  unfolding decoding.outcome_of
  same e = go (refusal c) refl
    where
      go : (q : ℕ) → refusal c ≡ q → SameNumbers c text_room issue_room
      go zero z =
          let x : decoding.outcome d ≡ decoding.outcome_of 0 d = accepted d e in
          record {
            text = text_as z ∙ sym (ap (λ (y : decoding.Outcome). y.text) x);
            issues = issues_as z ∙ sym (ap (λ (y : decoding.Outcome). y.issues) x);
            charged = charged_as z ∙ sym (ap (λ (y : decoding.Outcome). y.charged) x);
          }
      go (suc q) z = absurd (omega (arith, e, first q z))

  refuses : (n : ℕ) → (outcome c).refused ≡ suc n → (decoded c text_room issue_room).refused ≡ suc n
  refuses n e = go (refusal c) refl
    where
      go : (q : ℕ) → refusal c ≡ q → (decoded c text_room issue_room).refused ≡ suc n
      go zero z = absurd (omega (arith, e, number_as zero z))
      go (suc q) z = omega (arith, e, number_as (suc q) z, first q z)

  enough : (outcome c).text ≤ text_room → (outcome c).issues ≤ issue_room / numbers → (decoded c text_room issue_room).refused ≡ (outcome c).refused
  enough h k = go (refusal c) refl
    where
      go : (q : ℕ) → refusal c ≡ q → (decoded c text_room issue_room).refused ≡ (outcome c).refused
      go zero z = by_room z ∙ room.none (omega (arith, h, text_as z)) (omega (arith, k, issues_as z)) ∙ sym (number_as zero z)
      go (suc q) z = first q z ∙ sym (number_as (suc q) z)

  eight : text_room < (outcome c).text → (decoded c text_room issue_room).refused ≡ 8
  eight h = go (refusal c) refl
    where
      go : (q : ℕ) → refusal c ≡ q → (decoded c text_room issue_room).refused ≡ 8
      go zero z = by_room z ∙ room.eight (omega (arith, h, text_as z))
      go (suc q) z = absurd (omega (arith, h, (none_as q z).0))

  nine : (outcome c).text ≤ text_room → issue_room / numbers < (outcome c).issues → (decoded c text_room issue_room).refused ≡ 9
  nine h k = go (refusal c) refl
    where
      go : (q : ℕ) → refusal c ≡ q → (decoded c text_room issue_room).refused ≡ 9
      go zero z = by_room z ∙ room.nine (omega (arith, h, text_as z)) (omega (arith, k, issues_as z))
      go (suc q) z = absurd (omega (arith, k, (none_as q z).1))

pub measure_decoding : MeasureDecoding
measure_decoding = same

pub measure_refused : MeasureRefused
measure_refused c q e text_room issue_room = refuses c text_room issue_room q e

pub large_enough : LargeEnough
large_enough = enough

pub exact_buffers : ExactBuffers
exact_buffers c = enough c (outcome c).text ((outcome c).issues * numbers) (omega arith) (omega arith)

pub one_byte_less : OneByteLess
one_byte_less = eight

pub one_issue_less : OneIssueLess
one_issue_less = nine
