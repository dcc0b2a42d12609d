-- What the coding call accepts has passed questions 1, 2, 4 and 5, so what it returns reads back. Assumes nothing.
use Prim.Native.Nat.{ℕ, zero, suc, ◌≤◌}
use mathlib.Core.Path.{◌≡◌, refl}
use mathlib.Core.Bool.{Bool, true, false}
use mathlib.Core.List.{List}
use mathlib.Core.Option.{Option, none, some}
use native.Mathlib.Omega.{arith}
use borrow.Author.Tests.{leb-true}
use lib.Dec.{leb}
use lib.ListN.{length}
use Rattle.std.specs.Prelude.{Option as Optional, Some, None}
use Rattle.questions.specs.Questions.{cells_hold, first_refusal, encode_limit}
use Rattle.utf8.specs.Utf8.{first_fault}
use Rattle.coding.specs.Tokens.{tokens, baseless}
use Rattle.coding.specs.Call as coding
use Rattle.laws_coding.specs.Coding.{returned}
use Rattle.laws_coding.proofs.Coding.{accepted}
use Rattle.laws_readback.specs.ReadBack.{Based, PassesQuestions, AcceptedCall, RoundTrip}
use Rattle.laws_readback.proofs.ReadBack.{call_read_back}

module _ (c : coding.Lent) where
  asks : (t : List ℕ) (initial width limit len : ℕ) → first_refusal t initial width limit len ≡ 0 → (cells_hold t ≡ true) × (initial ≤ 1) × (width ≤ 1)
  unfolding first_refusal
  asks t initial width limit len e = go (cells_hold t) refl (leb initial 1) refl (leb width 1) refl
    where
      go : (x : Bool) → cells_hold t ≡ x → (y : Bool) → leb initial 1 ≡ y → (z : Bool) → leb width 1 ≡ z → (cells_hold t ≡ true) × (initial ≤ 1) × (width ≤ 1)
      go false p y q z r = let f = rw p at e in absurd (omega arith)
      go true p false q z r = let f = rw (p, q) at e in absurd (omega arith)
      go true p true q false r = let f = rw (p, q, r) at e in absurd (omega arith)
      go true p true q true r = (p, leb-true initial 1 q, leb-true width 1 r)

  question_5 : (coding.question5 c).number ≡ 0 → Based c
  unfolding coding.question5
  question_5 e = go (baseless false (tokens c.text)) refl
    where
      go : (x : Option ℕ) → baseless false (tokens c.text) ≡ x → Based c
      go none p = p
      go (some n) p = let f = rw (p, coding.question5) at e in absurd (omega arith)

  question_4 : (coding.question4 c).number ≡ 0 → (first_fault c.text ≡ None) × Based c
  unfolding coding.question4
  question_4 e = go (first_fault c.text) refl
    where
      go : (x : Optional ℕ) → first_fault c.text ≡ x → (first_fault c.text ≡ None) × Based c
      go None p = (p, question_5 (rw (p, coding.question4) at e))
      go (Some n) p = let f = rw (p, coding.question4) at e in absurd (omega arith)

  none_refused : (coding.refusal c).number ≡ 0 → PassesQuestions c
  unfolding coding.refusal
  none_refused e = go (first_refusal c.cells c.initial c.width encode_limit (length c.text)) refl
    where
      go : (x : ℕ) → first_refusal c.cells c.initial c.width encode_limit (length c.text) ≡ x → PassesQuestions c
      go zero p =
          let a = asks c.cells c.initial c.width encode_limit (length c.text) p in
          let b = question_4 (rw (p, coding.refusal) at e) in
          record { cells = a.0; initial = a.1; width = a.2; well_formed = b.0; based = b.1 }
      go (suc n) p = let f = rw (p, coding.refusal) at e in absurd (omega arith)

pub accepted_call : AcceptedCall
unfolding coding.outcome
accepted_call c e = go (coding.refusal c).number refl
  where
    go : (x : ℕ) → (coding.refusal c).number ≡ x → PassesQuestions c
    go zero p = none_refused c p
    go (suc n) p = let f = rw (p, coding.outcome_of) at e in absurd (omega arith)

pub round_trip : RoundTrip
round_trip c text_room issue_room e room =
    let d = accepted c e in call_read_back c (returned c) text_room issue_room (accepted_call c e) d.admissible d.decoded room
