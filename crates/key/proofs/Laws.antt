-- The questions of a key call in the paper's words: specs/Laws.antt states them. Assumes nothing.
use Prim.Native.Nat.{ℕ, zero, suc, ◌≤◌}
use mathlib.Core.Path.{◌≡◌, refl, sym, ◌∙◌}
use mathlib.Core.Bool.{Bool, true, false, cond, ◌&&◌}
use mathlib.Core.List.{List, [], ◌∷◌}
use native.Mathlib.Omega.{arith}
use borrow.Author.Tests.{ne_eqb, lt-leb}
use lib.Dec.{eqb, leb}
use lib.ListN.{length}
use Rattle.questions.specs.Questions.{cells_hold, first_refusal, decode_limit}
use Rattle.issues.specs.Issue.{Issue, issue_numbers, issues_numbers}
use Rattle.reading.specs.Call as decoding
use Rattle.key.specs.Key.{Lent, decoding_of, reading, text_bytes, question_of, eleventh, refusal}
use Rattle.key.specs.Laws.{first_of, KeyQuestions}

-- each issue has numbers
none_counted : (l : List Issue) → leb (length (issues_numbers l)) 0 ≡ eqb (length l) 0
unfolding issues_numbers issue_numbers
none_counted [] = refl
none_counted (i ∷ l) = lt-leb (length (issues_numbers (i ∷ l))) 0 (omega arith) ∙ sym (ne_eqb (length (i ∷ l)) 0 (λ z. omega arith))

-- the first three questions have numbers up to 3
first_few : (t : List ℕ) (initial width limit len : ℕ) → first_refusal t initial width limit len ≤ 3
unfolding first_refusal
first_few t initial width limit len = go (cells_hold t) (leb initial 1 && leb width 1) (leb len limit)
  where
    go : (a b c : Bool) → cond a (cond b (cond c 0 3) 2) 1 ≤ 3
    go true true true = omega arith
    go true true false = omega arith
    go true false c = omega arith
    go false b c = omega arith

module _ (c : Lent) where
  -- a decoding with no room for issues
  none_fails : first_of c ≡ 0 → refusal c ≡ cond (leb (length (text_bytes c)) c.room) (cond (eqb (length (reading c).out.issues) 0) (eleventh c) 10) 8
  unfolding refusal decoding.refusal decoding.fits text_bytes reading decoding.text_bytes decoding.issue_list
  none_fails e =
      rw (e, none_counted (decoding.reading (decoding_of c)).out.issues)
      (go (leb (length (decoding.text_bytes (decoding_of c))) c.room) (eqb (length (decoding.reading (decoding_of c)).out.issues) 0))
    where
      go : (a b : Bool) → ◌≡◌ {A = ℕ} (elim (cond a (cond {A = ℕ} b 0 9) 8) [ zero ↦ eleventh c | suc q ↦ question_of (suc q) ]) (cond a (cond b (eleventh c) 10) 8)
      go true true = refl
      go true false = refl
      go false b = refl

  one_fails : (q : ℕ) → first_of c ≡ suc q → refusal c ≡ suc q
  unfolding refusal decoding.refusal
  one_fails q e =
      let h : suc q ≤ 3 = omega (arith, e, first_few c.cells c.initial c.width decode_limit (length c.input)) in
      rw e (rw (ne_eqb (suc q) 9 (λ z. omega arith)))

pub key_questions : KeyQuestions
unfolding eleventh
key_questions c = record { first = one_fails c; rest = none_fails c }
