-- What the passes say of questions 4 to 6 of a call. Assumes nothing.
use mathlib.Core.Path.{◌≡◌, refl, sym, ap, ◌∙◌}
use mathlib.Core.Bool.{Bool, false}
use mathlib.Core.List.{List}
use mathlib.Core.Option as coding-option
use Prim.Native.Nat.{ℕ}
use lib.Dec.{eqb}
use Rattle.std.specs.Prelude.{Some, None, Result, Ok, Err}
use Rattle.questions.specs.declared.refusal.Refusal.{Refusal}
use Rattle.questions.specs.declared.refusal.Refusal.TheVariants.{IllFormed, NoBase}
use Rattle.questions.specs.Refusal.{number_of, place_of}
use Rattle.utf8.specs.Utf8.{first_fault}
use Rattle.coding.specs.Candidates.{candidates_of}
use Rattle.coding.specs.Tokens.{tokens, in_order, chars, baseless}
use Rattle.coding.specs.Call.{Lent, refuse, without, ordering, choices, question4, question5, question6, question7}
use Rattle.encode_tokens.specs.declared.Character.{Character}
use Rattle.encode_tokens.specs.declared.Ordered.{Ordered}
use Rattle.encode_tokens.specs.Promises.{answered, left, Tokenised}
use Rattle.encode_tokens.specs.Steps.{place_of_mark, Ordering}

none_of : (o : coding-option.Option ℕ) → place_of_mark o ≡ None → o ≡ coding-option.none
none_of coding-option.none e = refl
none_of (coding-option.some p) e = cc

some_of : (o : coding-option.Option ℕ) (p : ℕ) → place_of_mark o ≡ Some p → o ≡ coding-option.some p
some_of coding-option.none p e = cc
some_of (coding-option.some q) p e = let f : q ≡ p = cc in ap coding-option.some f

-- each question, where the one before it is answered yes
module _ (c : Lent) where
  four : (p : ℕ) → first_fault c.text ≡ Some p → question4 c ≡ refuse 4 p
  unfolding question4
  four p e = rw (e, question4)

  five : first_fault c.text ≡ None → question4 c ≡ question5 c
  unfolding question4
  five e = rw (e, question4)

  five_no : (p : ℕ) → baseless false (tokens c.text) ≡ coding-option.some p → question5 c ≡ refuse 5 p
  unfolding question5
  five_no p e = rw (e, question5)

  six : baseless false (tokens c.text) ≡ coding-option.none → question5 c ≡ question6 c
  unfolding question5
  six e = rw (e, question5)

  six_no : (p : ℕ) → without (ordering c) (choices c) ≡ coding-option.some p → question6 c ≡ refuse 6 p
  unfolding question6
  six_no p e = rw (e, question6)

  seven : without (ordering c) (choices c) ≡ coding-option.none → question6 c ≡ question7 c
  unfolding question6
  seven e = rw (e, question6)

-- the test of question 6, over what is lent
over : (c : Lent) (cells : List ℕ) (annex_e : Bool) (text : List ℕ) (o : coding-option.Option ℕ) → c.cells ≡ cells → eqb c.width 1 ≡ annex_e → c.text ≡ text
    → without (in_order (tokens text)) (candidates_of cells annex_e (chars (in_order (tokens text)))) ≡ o → without (ordering c) (choices c) ≡ o
unfolding ordering choices
over c cells annex_e text o p q r e = rw (p, q, r) e

-- ---- the answers

pub refused4 : (cells : List ℕ) (annex_e : Bool) (text : List ℕ) (p : ℕ) (xs : List Character) → first_fault text ≡ Some p
    → Tokenised cells annex_e text (Err (IllFormed p)) xs
unfolding answered left
refused4 cells annex_e text p xs e = record { answer = λ c f g h. four c p (ap first_fault h ∙ e); array = tt }

pub refused5 : (cells : List ℕ) (annex_e : Bool) (text : List ℕ) (p : ℕ) (xs : List Character) → first_fault text ≡ None
    → place_of_mark (baseless false (tokens text)) ≡ Some p → Tokenised cells annex_e text (Err (NoBase p)) xs
unfolding answered left
refused5 cells annex_e text p xs e b =
    record {
      answer = λ c f g h. five c (ap first_fault h ∙ e) ∙ five_no c p (ap (λ (t : List ℕ). baseless false (tokens t)) h ∙ some_of _ p b);
      array = tt;
    }

pub answer6 : (cells : List ℕ) (annex_e : Bool) (text : List ℕ) (r : Result Ordered Refusal) (xs : List Character) → first_fault text ≡ None
    → place_of_mark (baseless false (tokens text)) ≡ None → Ordering cells annex_e text r xs → Tokenised cells annex_e text r xs
unfolding answered left Ordering
answer6 cells annex_e text (Ok n) xs e b o =
    record {
      answer =
          λ c f g h. five c (ap first_fault h ∙ e)
          ∙ (six c (ap (λ (t : List ℕ). baseless false (tokens t)) h ∙ none_of _ b) ∙ seven c (over c cells annex_e text coding-option.none f g h o.each));
      array = o;
    }
answer6 cells annex_e text (Err w) xs e b o =
    record {
      answer =
          λ c f g h. five c (ap first_fault h ∙ e)
          ∙ (six c (ap (λ (t : List ℕ). baseless false (tokens t)) h ∙ none_of _ b)
          ∙ (six_no c o.place (over c cells annex_e text (coding-option.some o.place) f g h o.first)
          ∙ ap (λ (q : Refusal). refuse (number_of q) (place_of q)) (sym o.question)));
      array = tt;
    }
