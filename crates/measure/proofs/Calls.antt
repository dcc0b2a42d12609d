-- The measuring call, from what the reading counts. Assumes nothing.
use Prim.Native.Nat.{ℕ, zero, suc}
use mathlib.Core.Path.{◌≡◌, refl, sym, ap, subst, ◌∙◌}
use mathlib.Core.List.{List}
use native.Mathlib.Omega.{arith}
use Rattle.std.specs.Prelude.{Ok, Err}
use Rattle.questions.specs.declared.refusal.Refusal.{Refusal}
use Rattle.questions.specs.Refusal.{number_of, place_of}
use Rattle.questions.proofs.Refusals.{some_number}
use Rattle.reading.specs.WithoutBuffers.{Lent, lent, reading, refusal}
use Rattle.decode_read.specs.declared.Counts.{Counts}
use Rattle.decode_read.specs.Promises.{Read}
use Rattle.measure.specs.Measure.{Outcome, outcome_of, outcome}
use Rattle.measure.specs.Promises.{MeasureAnswer, Answered}

-- the outcome by the first question that fails
pub outcome_at : (c : Lent) (q : ℕ) → refusal c ≡ q → outcome c ≡ outcome_of q c
unfolding outcome
outcome_at c q e = ap (λ (n : ℕ). outcome_of n c) e

-- none of questions 1 to 3 fails
pub measured : (cells : List ℕ) (initial width : ℕ) (input : List ℕ) {t i : List ℕ} (n : Counts) {t' i' : List ℕ} → refusal (lent cells initial width input) ≡ 0
    → Read cells initial width input t i n t' i' → Answered (lent cells initial width input) (Ok (record { text = n.text; issues = n.issues; charged = n.charged }))
unfolding outcome_of reading
measured cells initial width input n z v =
    let o = outcome_at (lent cells initial width input) 0 z in
    record {
      number = sym (ap (λ (x : Outcome). x.refused) o);
      case = λ k. refl;
      place = refl;
      counted = v.counted.text ∙ sym (ap (λ (x : Outcome). x.text) o);
      reported = v.counted.issues ∙ sym (ap (λ (x : Outcome). x.issues) o);
      charged = v.counted.charged ∙ sym (ap (λ (x : Outcome). x.charged) o);
    }

-- one of them does
pub refused : (c : Lent) (e : Refusal) {r : MeasureAnswer} → r ≡ Err e → number_of e ≡ refusal c → place_of e ≡ 0 → Answered c r
unfolding outcome_of
refused c e w n p = subst (λ (r : MeasureAnswer). Answered c r) (sym w) (go (number_of e) refl)
  where
    go : (q : ℕ) → number_of e ≡ q → Answered c (Err e)
    go zero y = absurd (omega (arith, some_number e, y))
    go (suc q) y =
        let o = outcome_at c (suc q) (sym n ∙ y) in
        record {
          number = y ∙ sym (ap (λ (x : Outcome). x.refused) o);
          case = λ k. absurd (omega (arith, y, k));
          place = p;
          counted = sym (ap (λ (x : Outcome). x.text) o);
          reported = sym (ap (λ (x : Outcome). x.issues) o);
          charged = sym (ap (λ (x : Outcome). x.charged) o);
        }
