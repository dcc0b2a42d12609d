-- The clean call beside decoding, by name: specs/Laws.antt states them. Assumes nothing.
use Prim.Native.Nat.{ℕ, zero, suc}
use mathlib.Core.Path.{◌≡◌, refl, sym, ap, ◌∙◌}
use mathlib.Core.Bool.{Bool, cond}
use mathlib.Core.List.{List, [], ◌∷◌}
use native.Mathlib.Omega.{arith}
use borrow.Author.Tests.{ne_eqb}
use lib.Dec.{eqb}
use lib.ListN.{length}
use Rattle.issues.specs.Issue.{Issue}
use Rattle.reading.specs.Call as decoding
use Rattle.reading.specs.WithoutBuffers.{Lent, decoding_in, reading, refusal}
use Rattle.laws_reading.proofs.Calls.{accepted, refused_first}
use Rattle.clean.specs.Clean.{is_empty, clean, Outcome, outcome}
use Rattle.clean.specs.Laws.{Means, CleanMeans, CleanDecoding}
use Rattle.clean.proofs.Calls.{clean_as, passed_as, failed_as}

by_length : (l : List Issue) → ◌≡◌ {A = ℕ} (cond (is_empty l) 1 0) (cond (eqb (length l) 0) 1 0)
unfolding is_empty
by_length [] = refl
by_length (i ∷ l) = rw (ne_eqb (length (i ∷ l)) 0 (λ z. omega (arith, z)))

none : (l : List Issue) → ◌≡◌ {A = ℕ} (cond (is_empty l) 1 0) 1 → l ≡ []
unfolding is_empty
none [] e = refl
none (i ∷ l) e = absurd (omega (arith, e))

-- what the outcome says where questions 1 to 3 pass, by the issue list
said : (c : Lent) → refusal c ≡ 0 → (l : List Issue) → (reading c).out.issues ≡ l → ◌≡◌ {A = ℕ} (outcome c).clean (cond (is_empty l) 1 0)
said c z l q = ap (λ (x : Outcome). x.clean) (passed_as c z) ∙ ap (λ (b : Bool). cond b 1 0) (clean_as c l q)

pub clean_means : CleanMeans
unfolding is_empty
clean_means c = go (refusal c) refl
  where
    go : (q : ℕ) → refusal c ≡ q → Means c
    go zero e = record { yes = λ z h. said c e [] h; passed = λ h. e; empty = λ h. none (reading c).out.issues (sym (said c e _ refl) ∙ h) }
    go (suc q) e =
        let w = ap (λ (x : Outcome). x.clean) (failed_as c q e) in
        record { yes = λ z h. absurd (omega (arith, e, z)); passed = λ h. absurd (omega (arith, w, h)); empty = λ h. absurd (omega (arith, w, h)) }

-- a decoding that is accepted counts all issues of its reading
counted : (d : decoding.Lent) → (decoding.outcome d).refused ≡ 0 → (decoding.outcome d).issues ≡ length (decoding.reading d).out.issues
unfolding decoding.outcome_of
counted d e = ap (λ (x : decoding.Outcome). x.issues) (accepted d e)

pub clean_decoding : CleanDecoding
unfolding reading refusal
clean_decoding c text_room issue_room e = go (refusal c) refl
  where
    go : (q : ℕ) → refusal c ≡ q → ◌≡◌ {A = ℕ} (outcome c).clean (cond (eqb (decoding.outcome (decoding_in text_room issue_room c)).issues 0) 1 0)
    go zero z =
        said c z (reading c).out.issues refl ∙ by_length (reading c).out.issues
        ∙ sym (ap (λ (n : ℕ). cond (eqb n 0) 1 0) (counted (decoding_in text_room issue_room c) e))
    go (suc q) z = absurd (omega (arith, e, refused_first (decoding_in text_room issue_room c) q z))
