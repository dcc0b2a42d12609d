-- The laws by name: specs/Scalars.antt states them. Assumes nothing.
use Prim.Native.Nat.{ℕ, zero, suc, ◌≤◌, ◌<◌}
use mathlib.Core.Path.{◌≡◌, refl, sym, ap, ◌∙◌}
use mathlib.Core.Bool.{Bool, true, false, cond}
use mathlib.Core.List.{List}
use native.Mathlib.Omega.{arith}
use borrow.Author.Tests.{leb-true}
use lib.Dec.{leb}
use lib.ListN.{length, take, get_or}
use Rattle.private_use.specs.PrivateUse.{private_use}
use Rattle.utf8.specs.Utf8.{are_scalars, scalars}
use Rattle.utf8.proofs.Texts.{well_formed, scalars_utf8s}
use Rattle.questions.specs.Questions.{first_refusal, decode_limit}
use Rattle.questions.proofs.Buffers.{take_padded}
use Rattle.questions.proofs.Refusals.{passed}
use Rattle.decode_output.specs.Output.{nothing}
use Rattle.reading.specs.State.{start, given}
use Rattle.reading.specs.Steps.{run, decode}
use Rattle.reading.specs.Call.{Lent, reading, text_bytes, issue_list, fits, refusal, outcome_of, outcome}
use Rattle.laws_scalars.specs.Scalars.{TextScalars, TextWellFormed, TextPrivateUse}
use Rattle.laws_scalars.proofs.Written.{OfScalars, releases}
use Rattle.laws_scalars.proofs.Steps.{runs_to}

started : (initial : ℕ) → OfScalars (start initial)
unfolding start nothing are_scalars
started initial = record { text = tt; marks = tt }

pub text_scalars : TextScalars
unfolding decode
text_scalars g initial t = (releases (run g 4 g.input 0 0 (start initial)) (runs_to g t 4 g.input 0 0 (start initial) (started initial))).text

pub text_well_formed : TextWellFormed
text_well_formed g initial t = well_formed (decode g initial).out.text (text_scalars g initial t)

-- ---- the call

module _ (c : Lent) where
  -- a call that is not refused passed questions 1 to 3, and its text fits
  pub accepted_call : refusal c ≡ 0 → (first_refusal c.cells c.initial c.width decode_limit (length c.input) ≡ 0) × (length (text_bytes c) ≤ c.text_room)
  unfolding refusal fits
  accepted_call z = go (first_refusal c.cells c.initial c.width decode_limit (length c.input)) refl
    where
      fitting : (a b : Bool) → leb (length (text_bytes c)) c.text_room ≡ a → ◌≡◌ {A = ℕ} (cond a (cond b 0 9) 8) 0 → length (text_bytes c) ≤ c.text_room
      fitting true b e f = leb-true _ _ e
      fitting false b e f = absurd (omega arith)

      go : (q : ℕ) → first_refusal c.cells c.initial c.width decode_limit (length c.input) ≡ q
          → (first_refusal c.cells c.initial c.width decode_limit (length c.input) ≡ 0) × (length (text_bytes c) ≤ c.text_room)
      go zero e = (e, fitting (leb (length (text_bytes c)) c.text_room) (leb (length (issue_list c)) c.issue_room) refl (rw e at z))
      go (suc q) e = absurd (omega (arith, rw e at z))

  -- the characters of its bytes are those of the reading
  returned : ((k : ℕ) → get_or c.cells k 0 < 0x10000) → refusal c ≡ 0 → scalars (text_bytes c) ≡ (reading c).out.text
  unfolding text_bytes reading
  returned n z =
      scalars_utf8s (reading c).out.text
      (text_scalars (given c.cells c.width c.input) c.initial (record { admitted = (passed _ _ _ _ _ (accepted_call z).0).table; numbers = n }))

pub text_private_use : TextPrivateUse
unfolding outcome outcome_of scalars private_use
text_private_use c n = go (refusal c) refl
  where
    go : (q : ℕ) → refusal c ≡ q → (outcome_of q c).private_use ≡ private_use (scalars (take (outcome_of q c).text (outcome_of q c).text_buffer))
    go zero e = sym (ap (λ (l : List ℕ). private_use (scalars l)) (take_padded c.text_room (text_bytes c) (accepted_call c e).1) ∙ ap private_use (returned c n e))
    go (suc q) e = refl
