-- Which question decides, for both calls. Assumes nothing.
use Prim.Native.Nat.{ℕ, zero, suc, ◌≤◌}
use mathlib.Core.Path.{◌≡◌, refl, sym, ap, ◌∙◌, subst}
use mathlib.Core.Bool.{Bool, true, false, cond, not, ◌&&◌}
use mathlib.Core.List.{List, []}
use native.Mathlib.Omega.{arith}
use borrow.Author.Tests.{leb-true, eqb-true, le-leb, eq-eqb, ne_eqb}
use lib.Dec.{eqb, leb}
use lib.ListN.{length, get_or}
use Rattle.questions.specs.Buffer.{padded}
use Rattle.reading.specs.Between.{Between}
use Rattle.reading.specs.Call.{Outcome}
use Rattle.reading.specs.WithoutBuffers as unbuffered
use Rattle.std.specs.Prelude.{Result, Ok, Err}
use Rattle.questions.specs.declared.refusal.Refusal.{Refusal}
use Rattle.questions.specs.Refusal as refusals
use Rattle.questions.proofs.Refusals.{some_number}
use Rattle.decode.specs.Answers.{Answer, fits_in, number_of, place_of, text_of, issues_of, charged_of, private_use_of, Refuses, Answers}
use Rattle.bookmark_form.specs.Numbers.{numbers}
use Rattle.bookmark_form.specs.Form.{is_store, resumable}
use Rattle.bookmark.specs.Bookmark.{
  name_holds,
  Setting,
  reached,
  place_holds,
  place_refusal,
  set_refusal_of,
  set_refusal,
  replaced,
  WasSet,
  set_by,
  was_set,
  Returning,
  given_of,
  resumed,
  bookmark,
  rest_of,
  may_return,
  fits,
  return_refusal_of,
  return_refusal,
  returned_by,
  returned,
}
use Rattle.bookmark.specs.Promises.{Sets, Returns}

-- ---- tests

pub both : (a b : Bool) → a && b ≡ true → (a ≡ true) × (b ≡ true)
both true b e = (refl, e)
both false b e = absurd (let z : ◌≡◌ {A = ℕ} 0 1 = cc in omega arith)

pub and_false : (a b : Bool) → b ≡ false → a && b ≡ false
and_false true b e = e
and_false false b e = refl

untrue : (b : Bool) → (b ≡ true → ⊥) → b ≡ false
untrue true h = absurd (h refl)
untrue false h = refl

-- the tests of an `if !b`
pub not_taken : (b : Bool) → not b ≡ true → b ≡ false
not_taken true e = sym e
not_taken false e = refl

pub not_left : (b : Bool) → not b ≡ false → b ≡ true
not_left true e = refl
not_left false e = sym e

-- a test that decides between two numbers, of which the second is a refusal
chosen : (b : Bool) (x y : ℕ) → cond b x (suc y) ≡ 0 → (b ≡ true) × (x ≡ 0)
chosen true x y h = (refl, h)
chosen false x y h = absurd (omega (arith, h))

-- ---- a setting

-- what one has passed that is accepted
pub record Accepted (c : Setting) : Type 0 where
  pub questions : unbuffered.refusal c.lent ≡ 0
  pub name : name_holds c.store c.name ≡ true
  pub place : place_holds (reached c) c.place ≡ true

accepted_of : (c : Setting) (q : ℕ) → unbuffered.refusal c.lent ≡ q → set_refusal_of q c ≡ 0 → Accepted c
unfolding set_refusal_of
accepted_of c zero e h =
    let n = chosen (name_holds c.store c.name) (place_refusal c) 14 h in
    record { questions = e; name = n.0; place = (chosen (place_holds (reached c) c.place) 0 15 n.1).0 }
accepted_of c (suc q) e h = absurd (omega (arith, h))

pub accepted : (c : Setting) → set_refusal c ≡ 0 → Accepted c
unfolding set_refusal
accepted c h = accepted_of c (unbuffered.refusal c.lent) refl h

module _ (c : Setting) where
  pub set_questions : (q : ℕ) → unbuffered.refusal c.lent ≡ suc q → set_refusal c ≡ suc q
  unfolding set_refusal set_refusal_of
  set_questions q e = ap (λ (n : ℕ). set_refusal_of n c) e

  pub set_name : unbuffered.refusal c.lent ≡ 0 → name_holds c.store c.name ≡ false → set_refusal c ≡ 15
  unfolding set_refusal set_refusal_of
  set_name e f = ap (λ (n : ℕ). set_refusal_of n c) e ∙ ap (λ (b : Bool). cond b (place_refusal c) 15) f

  pub set_place : unbuffered.refusal c.lent ≡ 0 → name_holds c.store c.name ≡ true → (b : Bool) → place_holds (reached c) c.place ≡ b
      → set_refusal c ≡ cond b 0 16
  unfolding set_refusal set_refusal_of
  set_place e f b p = ap (λ (n : ℕ). set_refusal_of n c) e ∙ ap (λ (b : Bool). cond b (place_refusal c) 15) f ∙ ap (λ (b : Bool). cond b 0 16) p

  -- what a refusal leaves
  pub set_refused : (e : Refusal) {r : Result (Unit {0}) Refusal} {store : List ℕ} → set_refusal c ≡ refusals.number_of e → refusals.place_of e ≡ 0 → r ≡ Err e → store ≡ c.store
      → Sets c r store
  unfolding was_set set_by
  set_refused e {r} {store} n p a s = go (refusals.number_of e) refl
    where
      go : (q : ℕ) → refusals.number_of e ≡ q → Sets c r store
      go zero z = absurd (omega (arith, some_number e, z))
      go (suc q) z =
          let x : was_set c ≡ record { refused = suc q; store = c.store } = ap (λ (n : ℕ). set_by n c) (n ∙ z) in
          record {
            number = ap refusals.refused a ∙ z ∙ sym (ap (λ (y : WasSet). y.refused) x);
            place = ap refusals.refused_at a ∙ p;
            stored = s ∙ sym (ap (λ (y : WasSet). y.store) x);
          }

  -- and an acceptance
  pub set_stored : set_refusal c ≡ 0 → was_set c ≡ record { refused = 0; store = replaced c.store c.name (numbers c.place (reached c).state) }
  unfolding was_set set_by
  set_stored e = ap (λ (n : ℕ). set_by n c) e

  pub set_accepted : {store : List ℕ} → set_refusal c ≡ 0 → store ≡ replaced c.store c.name (numbers c.place (reached c).state) → Sets c (Ok tt) store
  set_accepted e s =
      let x = set_stored e in
      record { number = sym (ap (λ (y : WasSet). y.refused) x); place = refl; stored = s ∙ sym (ap (λ (y : WasSet). y.store) x) }

-- the place, by what was reached
pub place_known : (b : Between) (place : ℕ) → place_holds b place ≡ true → (b.at ≡ place) × (length b.state.out.marks ≤ 16)
unfolding place_holds
place_known b place h =
    let t = both (eqb b.at place) (leb (length b.state.out.marks) 16) h in
    (eqb-true b.at place t.0, leb-true (length b.state.out.marks) 16 t.1)

pub place_holds_lem : (b : Between) (place : ℕ) → b.at ≡ place → length b.state.out.marks ≤ 16 → place_holds b place ≡ true
unfolding place_holds
place_holds_lem b place e h = rw (eq-eqb b.at place e, le-leb (length b.state.out.marks) 16 h)

pub place_fails : (b : Between) (place : ℕ) → ((b.at ≡ place) × (length b.state.out.marks ≤ 16) → ⊥) → place_holds b place ≡ false
place_fails b place f = untrue (place_holds b place) (λ t. f (place_known b place t))

-- a name and its store
pub name_known : (store : List ℕ) (name : ℕ) → name_holds store name ≡ true → (name ≤ 15) × (is_store store ≡ true)
unfolding name_holds
name_known store name h = let t = both (leb name 15) (is_store store) h in (leb-true name 15 t.0, t.1)

-- ---- a return

module _ (c : Returning) where
  pub return_questions : (q : ℕ) → unbuffered.refusal c.lent ≡ suc q → return_refusal c ≡ suc q
  unfolding return_refusal return_refusal_of
  return_questions q e = ap (λ (n : ℕ). return_refusal_of n c) e

  pub return_none : unbuffered.refusal c.lent ≡ 0 → may_return c ≡ false → return_refusal c ≡ 15
  unfolding return_refusal return_refusal_of
  return_none e f = ap (λ (n : ℕ). return_refusal_of n c) e ∙ ap (λ (b : Bool). cond b (fits c) 15) f

  pub return_fits : unbuffered.refusal c.lent ≡ 0 → may_return c ≡ true → return_refusal c ≡ fits c
  unfolding return_refusal return_refusal_of
  return_fits e f = ap (λ (n : ℕ). return_refusal_of n c) e ∙ ap (λ (b : Bool). cond b (fits c) 15) f

  -- what a refusal leaves
  pub return_refused : (e : Refusal) {r : Answer} {ti ii t i : List ℕ} → return_refusal c ≡ refusals.number_of e → refusals.place_of e ≡ 0 → length ti ≡ c.text_room
      → length ii ≡ c.issue_room → Refuses e ti ii r t i → Returns c r t i
  unfolding returned returned_by
  return_refused e {r} {ti} {ii} {t} {i} n p a b v = go (refusals.number_of e) refl
    where
      go : (q : ℕ) → refusals.number_of e ≡ q → Returns c r t i
      go zero z = absurd (omega (arith, some_number e, z))
      go (suc q) z =
          let x : returned c ≡ returned_by (suc q) c = ap (λ (n : ℕ). returned_by n c) (n ∙ z) in
          record {
            number = ap number_of v.answer ∙ z ∙ sym (ap (λ (y : Outcome). y.refused) x);
            case = λ y. absurd (omega (arith, z, sym (ap number_of v.answer) ∙ y));
            place = ap place_of v.answer ∙ p;
            counted = ap text_of v.answer ∙ sym (ap (λ (y : Outcome). y.text) x);
            reported = ap issues_of v.answer ∙ sym (ap (λ (y : Outcome). y.issues) x);
            charged = ap charged_of v.answer ∙ sym (ap (λ (y : Outcome). y.charged) x);
            private_use = ap private_use_of v.answer ∙ sym (ap (λ (y : Outcome). y.private_use) x);
            written = v.text ∙ ap (λ (n : ℕ). padded n []) a ∙ sym (ap (λ (y : Outcome). y.text_buffer) x);
            listed = v.issues ∙ ap (λ (n : ℕ). padded n []) b ∙ sym (ap (λ (y : Outcome). y.issue_buffer) x);
          }

  -- and what the rest gives
  pub return_answered : {r : Answer} {t i : List ℕ} → unbuffered.refusal c.lent ≡ 0 → may_return c ≡ true → Answers (rest_of c) c.text_room c.issue_room r t i
      → Returns c r t i
  unfolding fits fits_in returned returned_by
  return_answered {r} {t} {i} z m v = go (fits c) refl
    where
      go : (q : ℕ) → fits c ≡ q → Returns c r t i
      go zero e =
          let w = v.accepted (v.number ∙ e) in
          let x : returned c ≡ returned_by zero c = ap (λ (q : ℕ). returned_by q c) (return_fits z m ∙ e) in
          record {
            number = v.number ∙ e ∙ sym (ap (λ (y : Outcome). y.refused) x);
            case = v.case;
            place = v.place;
            counted = w.0 ∙ sym (ap (λ (y : Outcome). y.text) x);
            reported = w.1 ∙ sym (ap (λ (y : Outcome). y.issues) x);
            charged = w.2 ∙ sym (ap (λ (y : Outcome). y.charged) x);
            private_use = w.3 ∙ sym (ap (λ (y : Outcome). y.private_use) x);
            written = w.4 ∙ sym (ap (λ (y : Outcome). y.text_buffer) x);
            listed = w.5 ∙ sym (ap (λ (y : Outcome). y.issue_buffer) x);
          }
      go (suc q) e =
          let n : number_of r ≡ suc q = v.number ∙ e in
          let w = v.refused (λ y. omega (arith, n, y)) in
          let x : returned c ≡ returned_by (suc q) c = ap (λ (k : ℕ). returned_by k c) (return_fits z m ∙ e) in
          record {
            number = n ∙ sym (ap (λ (y : Outcome). y.refused) x);
            case = v.case;
            place = v.place;
            counted = w.0 ∙ sym (ap (λ (y : Outcome). y.text) x);
            reported = w.1 ∙ sym (ap (λ (y : Outcome). y.issues) x);
            charged = w.2 ∙ sym (ap (λ (y : Outcome). y.charged) x);
            private_use = w.3 ∙ sym (ap (λ (y : Outcome). y.private_use) x);
            written = w.4 ∙ sym (ap (λ (y : Outcome). y.text_buffer) x);
            listed = w.5 ∙ sym (ap (λ (y : Outcome). y.issue_buffer) x);
          }

-- ---- what lets a return pass, by the numbers l of its name

module _ (c : Returning) where
  pub may_name : name_holds c.store c.name ≡ false → may_return c ≡ false
  unfolding may_return
  may_name e = ap (λ (b : Bool). b && (eqb (get_or (bookmark c) 0 0) 1 && resumable c.lent.input (bookmark c))) e

  module _ {l : List ℕ} (e : l ≡ bookmark c) where
    pub may_unset : (get_or l 0 0 ≡ 1 → ⊥) → may_return c ≡ false
    unfolding may_return
    may_unset f =
        let n : eqb (get_or (bookmark c) 0 0) 1 ≡ false = ap (λ (z : List ℕ). eqb (get_or z 0 0) 1) (sym e) ∙ ne_eqb (get_or l 0 0) 1 f in
        and_false (name_holds c.store c.name) _ (ap (λ (b : Bool). b && resumable c.lent.input (bookmark c)) n)

    pub may_not : resumable c.lent.input l ≡ false → may_return c ≡ false
    unfolding may_return
    may_not f =
        let n : resumable c.lent.input (bookmark c) ≡ false = ap (resumable c.lent.input) (sym e) ∙ f in
        and_false (name_holds c.store c.name) _ (and_false (eqb (get_or (bookmark c) 0 0) 1) _ n)

    pub may : name_holds c.store c.name ≡ true → get_or l 0 0 ≡ 1 → resumable c.lent.input l ≡ true → may_return c ≡ true
    unfolding may_return
    may n f r = rw (n, ← e, f, r) refl

-- ---- one of questions 1 to 3 fails

pub set_questioned : (c : Setting) (e : Refusal) {r : Result (Unit {0}) Refusal} {store : List ℕ} → refusals.number_of e ≡ unbuffered.refusal c.lent → refusals.place_of e ≡ 0
    → r ≡ Err e → store ≡ c.store → Sets c r store
set_questioned c e {r} {store} n p a s = set_refused c e (go (refusals.number_of e) refl) p a s
  where
    go : (q : ℕ) → refusals.number_of e ≡ q → set_refusal c ≡ refusals.number_of e
    go zero z = absurd (omega (arith, some_number e, z))
    go (suc q) z = set_questions c q (sym n ∙ z) ∙ sym z

pub return_questioned : (c : Returning) (e : Refusal) {r : Answer} {ti ii t i : List ℕ} → refusals.number_of e ≡ unbuffered.refusal c.lent → refusals.place_of e ≡ 0
    → length ti ≡ c.text_room → length ii ≡ c.issue_room → Refuses e ti ii r t i → Returns c r t i
return_questioned c e n p a b v = return_refused c e (go (refusals.number_of e) refl) p a b v
  where
    go : (q : ℕ) → refusals.number_of e ≡ q → return_refusal c ≡ refusals.number_of e
    go zero z = absurd (omega (arith, some_number e, z))
    go (suc q) z = return_questions c q (sym n ∙ z) ∙ sym z

-- the rest, from the numbers l of the name
pub return_resumed : (c : Returning) {l : List ℕ} {r : Answer} {t i : List ℕ} → unbuffered.refusal c.lent ≡ 0 → may_return c ≡ true → l ≡ bookmark c
    → Answers (resumed (given_of c.lent) l) c.text_room c.issue_room r t i → Returns c r t i
return_resumed c {r = r} {t} {i} z m e v =
    return_answered c z m (subst (λ (l : List ℕ). Answers (resumed (given_of c.lent) l) c.text_room c.issue_room r t i) e v)
