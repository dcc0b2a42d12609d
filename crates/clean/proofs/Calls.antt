-- The clean call, from what the decoder's steps leave. Assumes nothing.
use Prim.Native.Nat.{ℕ, zero, suc, ◌≤◌, ◌<◌}
use mathlib.Core.Path.{◌≡◌, refl, sym, ap, ◌∙◌, subst}
use mathlib.Core.Bool.{Bool, true, false, cond}
use mathlib.Core.List.{List, [], ◌∷◌}
use mathlib.Core.Logic.{inl, inr}
use native.Mathlib.Omega.{arith}
use borrow.Author.Tests.{ne_eqb}
use lib.Dec.{eqb}
use lib.ListN.{length}
use Rattle.std.specs.Prelude.{Ok, Err}
use Rattle.questions.specs.declared.refusal.Refusal.{Refusal}
use Rattle.questions.specs.Refusal.{number_of, place_of}
use Rattle.questions.proofs.Refusals.{some_number}
use Rattle.issues.specs.Issue.{Issue}
use Rattle.decode_output.specs.declared.Out.{Out}
use Rattle.decode_output.specs.Output.{release}
use Rattle.decode_output.specs.Promises as output
use Rattle.reading.specs.State.{State, given, start, writes}
use Rattle.reading.specs.Steps.{decode, run}
use Rattle.reading.specs.WithoutBuffers.{Lent, lent, reading, refusal}
use Rattle.laws_reading.proofs.Reading.{issues_only_grow, has_later}
use Rattle.decode_state.specs.declared.Core.{Core}
use Rattle.decode_state.specs.declared.Decoder.{Decoder}
use Rattle.decode_state.specs.Promises.{start_of, undefined, view, HoldsOrCut}
use Rattle.decode_outer.specs.declared.Reached.{Reached}
use Rattle.decode_outer.specs.Promises.{TopRan}
use Rattle.decode_outer.proofs.Start.{enough_end, ran_start}
use Rattle.clean.specs.Clean.{is_empty, clean, Outcome, outcome_of, outcome}
use Rattle.clean.specs.Promises.{CleanAnswer, Answered}

-- ---- the answer

module _ (c : Lent) where
  -- the reply by the issue list of the reading
  pub clean_as : (l : List Issue) → (reading c).out.issues ≡ l → clean c ≡ is_empty l
  unfolding clean
  clean_as l q = ap is_empty q

  -- the outcome by the first question that fails
  pub passed_as : refusal c ≡ 0 → outcome c ≡ record { refused = 0; clean = cond (clean c) 1 0 }
  unfolding outcome outcome_of
  passed_as z = ap (λ (q : ℕ). outcome_of q c) z

  pub failed_as : (q : ℕ) → refusal c ≡ suc q → outcome c ≡ record { refused = suc q; clean = 0 }
  unfolding outcome outcome_of
  failed_as q z = ap (λ (n : ℕ). outcome_of n c) z

  -- the answer by how many issues there are
  pub answered : refusal c ≡ 0 → (n : ℕ) → n ≡ length (reading c).out.issues → Answered c (Ok (eqb n 0))
  unfolding is_empty
  answered z n e = go n (reading c).out.issues refl e
    where
      o : outcome c ≡ record { refused = 0; clean = cond (clean c) 1 0 }
      o = passed_as z

      by : (b : Bool) → clean c ≡ b → Answered c (Ok b)
      by b q = record {
        number = sym (ap (λ (x : Outcome). x.refused) o);
        case = λ k. ap Ok (sym q);
        place = refl;
        said = sym (ap (λ (x : Outcome). x.clean) o ∙ ap (λ (b : Bool). cond b 1 0) q);
      }

      go : (n : ℕ) (l : List Issue) → (reading c).out.issues ≡ l → n ≡ length l → Answered c (Ok (eqb n 0))
      go zero [] q h = by true (clean_as [] q)
      go (suc n) (i ∷ l) q h = by (eqb (suc n) 0) (clean_as (i ∷ l) q ∙ sym (ne_eqb (suc n) 0 (λ k. omega (arith, k))))
      go zero (i ∷ l) q h = absurd (omega (arith, h))
      go (suc n) [] q h = absurd (omega (arith, h))

  -- one of questions 1 to 3 fails
  pub refused : (e : Refusal) {r : CleanAnswer} → r ≡ Err e → number_of e ≡ refusal c → place_of e ≡ 0 → Answered c r
  refused e w n p = subst (λ (r : CleanAnswer). Answered c r) (sym w) (go (number_of e) refl)
    where
      go : (q : ℕ) → number_of e ≡ q → Answered c (Err e)
      go zero y = absurd (omega (arith, some_number e, y))
      go (suc q) y =
          let o = failed_as q (sym n ∙ y) in
          record {
            number = y ∙ sym (ap (λ (x : Outcome). x.refused) o);
            case = λ k. absurd (omega (arith, y, k));
            place = p;
            said = sym (ap (λ (x : Outcome). x.clean) o);
          }

-- ---- from the start, by all steps and the release of the marks

module _ (cells : List ℕ) (initial width : ℕ) (input t i : List ℕ) (x : Core) (d : Decoder) (r : Reached) (t₁ i₁ : List ℕ) (z : refusal (lent cells initial width input) ≡ 0)
    (short : length input ≤ 65535) (e : x ≡ start_of initial width 1) (begins : d ≡ undefined x)
    (top : TopRan cells input 0 (length input) d t i r t₁ i₁) where
  abbrev ends : State
  ends = run (given cells width input) 4 input 0 0 (start initial)

  abbrev Ran : Type 0
  Ran = HoldsOrCut (given cells width input) t i ends (view r.decoder) t₁ i₁

  ran : Ran
  ran = ran_start input initial width 1 short e begins top

  p : r.decoder.core.enough ≡ 1
  p = enough_end input initial width 1 short e begins top

  -- the reading is the end of the steps, with the marks released
  read : reading (lent cells initial width input) ≡ writes release ends
  unfolding reading decode
  read = refl

  -- an issue before the end
  pub answered_no : 0 < r.decoder.core.out.issues → Answered (lent cells initial width input) (Ok false)
  answered_no h = some (reading (lent cells initial width input)).out.issues refl (later (has ran))
    where
      has : Ran → 1 ≤ length ends.out.issues
      has (inl k) = omega (arith, h, ap (λ (o : Out). o.issues) k.out.state)
      has (inr q) = omega (arith, p, q.has)

      later : 1 ≤ length ends.out.issues → 1 ≤ length (reading (lent cells initial width input)).out.issues
      later k = rw read (has_later (issues_only_grow.released ends) k)

      some : (l : List Issue) → (reading (lent cells initial width input)).out.issues ≡ l → 1 ≤ length (reading (lent cells initial width input)).out.issues
          → Answered (lent cells initial width input) (Ok false)
      some [] q k = absurd (omega (arith, k, ap length q))
      some (x ∷ l) q k =
          subst (λ (b : Bool). Answered (lent cells initial width input) (Ok b)) (ne_eqb (suc (length l)) 0 (λ e. omega (arith, e)))
          (answered (lent cells initial width input) z (suc (length l)) (sym (ap length q)))

  -- none before it: the marks that wait there bring one
  pub answered_end : {o : Out} {i₂ : List ℕ} → r.decoder.core.out.issues ≤ 0 → output.Wrote 0 1 release r.decoder.core.out t₁ i₁ o t₁ i₂
      → Answered (lent cells initial width input) (Ok (eqb o.issues 0))
  unfolding writes
  answered_end {o = o} {i₂ = i₂} h flush = answered (lent cells initial width input) z o.issues (count ran)
    where
      count : Ran → o.issues ≡ length (reading (lent cells initial width input)).out.issues
      count (inl k) = rw read (ap (λ (x : Out). x.issues) (flush.does t i ends.out k.out).state)
      count (inr q) = absurd (omega (arith, h, p, q.ends))
