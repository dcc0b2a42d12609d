-- Titles that have one key: specs/Laws.antt states them. Assumes nothing.
use Prim.Native.Nat.{ℕ, zero, suc, ◌≤◌}
use mathlib.Core.Path.{◌≡◌, refl, sym, ap, ◌∙◌}
use mathlib.Core.Bool.{Bool, true, false, cond}
use mathlib.Core.List.{List, [], ◌∷◌}
use native.Mathlib.Omega.{arith}
use borrow.Author.Tests.{le-leb}
use lib.Dec.{eqb}
use lib.ListN.{length}
use Rattle.private_use.specs.PrivateUse.{private_use}
use Rattle.utf8.specs.Utf8.{utf8s}
use Rattle.questions.specs.Questions.{first_refusal}
use Rattle.reading.specs.State.{Given}
use Rattle.reading.specs.Steps.{decode}
use Rattle.reading.specs.Call as decoding
use Rattle.key_text.specs.KeyText.{halfwidth_of, key_text}
use Rattle.key_text.proofs.Laws.{widths_one_key}
use Rattle.key.specs.Key.{Lent, reading, key_bytes, Outcome, outcome_of, outcome}
use Rattle.key.specs.Laws.{first_of, ReadingsOneKey, wide, narrow, LetterOneKey}
use Rattle.key.proofs.Laws.{key_questions}
use Rattle.key.proofs.ByText.{Reads, refused, keyed, its_key, its_outcome}

pub readings_one_key : ReadingsOneKey
unfolding key_bytes
readings_one_key c d h = ap utf8s (widths_one_key (reading c).out.text (reading d).out.text h)

-- ---- a title that is keyed

-- the outcome by the first of questions 1 to 3 that fails
abbrev answer : ℕ → ℕ → List ℕ → Outcome
answer zero room key = keyed room key
answer (suc q) room key = refused (suc q) room

module _ (c : Lent) (text key : List ℕ) (r : Reads (reading c) text) (k : utf8s (key_text text) ≡ key) where
  answered : length (utf8s text) ≤ c.room → private_use text ≡ 0 → (q : ℕ) → first_of c ≡ q → outcome c ≡ answer q c.room key
  unfolding outcome outcome_of
  answered h none zero f = its_outcome c text r (utf8s text) refl f ∙ rw (le-leb (length (utf8s text)) c.room h, none, k)
  answered h none (suc q) f = ap (λ (n : ℕ). outcome_of n c) ((key_questions c).first q f)

-- ---- Ａ and A

-- the letter of `0E 41`, by the width option
abbrev letter : Bool → List ℕ
letter annex_e = cond annex_e 0x41 0xFF21 ∷ []

module _ (cells : List ℕ) (initial : ℕ) where
  abbrev given : Bool → List ℕ → Given
  given annex_e input = record { cells = cells; annex_e = annex_e; input = input }

  wide_reads : (annex_e : Bool) → Reads (decode (given annex_e (0x0E ∷ 0x41 ∷ [])) initial) (letter annex_e)
  unfolding decode
  wide_reads true = record { text_is = refl; no_issue = refl; no_charge = refl }
  wide_reads false = record { text_is = refl; no_issue = refl; no_charge = refl }

  narrow_reads : (annex_e : Bool) → Reads (decode (given annex_e (0x89 ∷ 0x0E ∷ 0x41 ∷ [])) initial) (0x41 ∷ [])
  unfolding decode
  narrow_reads true = record { text_is = refl; no_issue = refl; no_charge = refl }
  narrow_reads false = record { text_is = refl; no_issue = refl; no_charge = refl }

letter_key : (annex_e : Bool) → utf8s (key_text (letter annex_e)) ≡ 0x41 ∷ []
unfolding utf8s key_text halfwidth_of
letter_key true = refl
letter_key false = refl

letter_ordinary : (annex_e : Bool) → private_use (letter annex_e) ≡ 0
unfolding private_use
letter_ordinary true = refl
letter_ordinary false = refl

letter_bytes : (annex_e : Bool) → length (utf8s (letter annex_e)) ≤ 3
unfolding utf8s
letter_bytes true = omega arith
letter_bytes false = omega arith

pub letter_one_key : LetterOneKey
unfolding reading decoding.reading first_refusal
letter_one_key cells initial width room =
    let annex_e = eqb width 1 in
    let w = wide cells initial width room in
    let n = narrow cells initial width room in
    let wr : Reads (reading w) (letter annex_e) = wide_reads cells initial annex_e in
    let nr : Reads (reading n) (0x41 ∷ []) = narrow_reads cells initial annex_e in
    let l = letter_bytes annex_e in
    record {
      wide_key = its_key w _ wr ∙ letter_key annex_e;
      narrow_key = its_key n _ nr ∙ letter_key true;
      one = λ h.
          answered w _ _ wr (letter_key annex_e) (omega arith) (letter_ordinary annex_e) (first_of w) refl
          ∙ sym (answered n _ _ nr (letter_key true) (omega (arith, letter_bytes true)) (letter_ordinary true) (first_of n) refl);
    }
