-- The answers of the call, against the definition. Assumes nothing.
use mathlib.Core.Path.{◌≡◌, refl, sym, ap, ap₂, subst, ◌∙◌}
use mathlib.Core.List.{List, []}
use Prim.Native.Nat.{ℕ, zero, suc, ◌≤◌, ◌<◌}
use native.Mathlib.Omega.{arith}
use borrow.Author.Tests.{lt-leb, le-leb}
use lib.Dec.{eqb}
use lib.ListN.{length, take}
use lib.Seq.{sets}
use Rattle.questions.specs.Questions.{first_refusal}
use Rattle.questions.specs.Buffer.{padded, cleared}
use Rattle.questions.proofs.Buffers.{clear_all, clear_past}
use Rattle.coding.specs.Search.{Coded}
use Rattle.coding.specs.Call.{Lent, coding, Refusal, refuse, question4, question8, refusal, Outcome, outcome_of, outcome}
use Rattle.encode_tokens.specs.declared.Character.{Character}
use Rattle.encode_find.specs.Plans.{asked, planned, leads, taken, Leading, Planned}
use Rattle.encode.specs.Answers.{Answer, number_of, place_of, length_of, gap_of, Zeroed, Refuses, Answers, lent, Answered}
use Rattle.encode_find.specs.declared.Target.{Target}
use Rattle.encode.specs.declared.call.Coding.{Coding}
use Rattle.std.specs.Prelude.{Result, Ok, Err, Option, Some, None}
use Rattle.questions.specs.declared.refusal.Refusal as refusals
use Rattle.questions.specs.declared.refusal.Refusal.TheVariants.{BufferTooSmall}
use Rattle.questions.specs.Refusal as its
use Rattle.questions.proofs.Refusals.{some_number}

-- a refusal
pub refused_as : {e : refusals.Refusal} {s b s' b' : List ℕ} {r : Answer} (f : Refusal) (k : Coded) → f ≡ refuse (its.number_of e) (its.place_of e) → Refuses e s b r s' b' →
    Answers f k s b r s' b'
refused_as {e} {r = r} f k w q =
    let n : number_of r ≡ its.number_of e = ap number_of q.answer in
    record {
      number = n ∙ sym (ap (λ (x : Refusal). x.number) w);
      case = λ z. absurd (omega (arith, z, n, some_number e));
      accepted = λ z. absurd (omega (arith, z, n, some_number e));
      refused = λ z. (ap place_of q.answer ∙ sym (ap (λ (x : Refusal). x.place) w), ap length_of q.answer, ap gap_of q.answer, q.zeros.buffer);
      store = q.zeros.store;
    }

-- question 8
no_room : (b : List ℕ) (k : Coded) → length b < length k.out → question8 (length b) k ≡ refuse 8 0
unfolding question8
no_room b k h = rw (lt-leb _ _ h) refl

pub too_long : {s b s' b' : List ℕ} {r : Answer} (len : ℕ) → length b < len → (k : Coded) → len ≡ length k.out → Refuses BufferTooSmall s b r s' b' →
    Answers (question8 (length b) k) k s b r s' b'
too_long {b = b} len h k e q = refused_as (question8 (length b) k) k (no_room b k (omega (arith, h, e))) q

pub wrote_nothing : {s b s' b' : List ℕ} (k : Coded) → k.out ≡ [] → k.gap ≡ 0 → Zeroed s b s' b' → Answers (question8 (length b) k) k s b (Ok (record { length = 0; gap = 0 })) s' b'
unfolding question8
wrote_nothing {s} {b} {s'} {b'} k eo eg q =
    let g : length k.out ≤ length b = omega (arith, ap length eo) in
    record {
      number = rw (le-leb _ _ g) refl;
      case = λ z. refl;
      accepted = λ z. (refl, sym (ap length eo), sym eg, q.buffer ∙ ap (padded (length b)) (sym eo));
      refused = λ z. absurd (z refl);
      store = q.store;
    }

pub wrote : {s b b₁ b₂ s' : List ℕ} {len gap : ℕ} (k : Coded) → len ≡ length k.out → gap ≡ k.gap → len ≤ length b → b₁ ≡ sets b 0 k.out → b₂ ≡ cleared b₁ len →
    s' ≡ cleared s 0 → Answers (question8 (length b) k) k s b (Ok (record { length = len; gap = gap })) s' b₂
unfolding question8
wrote {s} {b} {b₁} {b₂} {s'} {len} {gap} k el eg h e₁ e₂ es =
    let g : length k.out ≤ length b = omega (arith, h, el) in
    record {
      number = rw (le-leb _ _ g) refl;
      case = λ z. refl;
      accepted = λ z. (refl, el, eg, e₂ ∙ ap (λ (x : List ℕ). cleared x len) e₁ ∙ ap (cleared (sets b 0 k.out)) el ∙ clear_past b k.out g);
      refused = λ z. absurd (z refl);
      store = es ∙ clear_all s;
    }

-- the outcome
abbrev acceptance : Lent → Outcome
acceptance c =
    record {
      refused = 0;
      place = 0;
      length = length (coding c).out;
      gap = (coding c).gap;
      buffer = padded c.coding_room (coding c).out;
      store = padded c.store_room [];
    }

abbrev rejection : Lent → ℕ → ℕ → Outcome
rejection c number place = record { refused = number; place = place; length = 0; gap = 0; buffer = padded c.coding_room []; store = padded c.store_room [] }

accepted_as : (f : Refusal) (c : Lent) → f.number ≡ 0 → outcome_of f c ≡ acceptance c
unfolding outcome_of
accepted_as f c e = rw (e, outcome_of) refl

rejected_as : (f : Refusal) (c : Lent) (n : ℕ) → f.number ≡ suc n → outcome_of f c ≡ rejection c (suc n) f.place
unfolding outcome_of
rejected_as f c n e = rw (e, outcome_of) refl

same_as : (c : Lent) (r : Answer) (s' b' : List ℕ) (o : Outcome) → outcome c ≡ o → (number_of r ≡ 0 → r ≡ Ok (record { length = length_of r; gap = gap_of r })) → number_of r ≡ o.refused →
    place_of r ≡ o.place → length_of r ≡ o.length → gap_of r ≡ o.gap → b' ≡ o.buffer → s' ≡ o.store → Answered c r s' b'
same_as c r s' b' o e k n p l g b s =
    record {
      number = n ∙ sym (ap (λ (x : Outcome). x.refused) e);
      case = k;
      place = p ∙ sym (ap (λ (x : Outcome). x.place) e);
      counted = l ∙ sym (ap (λ (x : Outcome). x.length) e);
      gap = g ∙ sym (ap (λ (x : Outcome). x.gap) e);
      written = b ∙ sym (ap (λ (x : Outcome). x.buffer) e);
      cleared = s ∙ sym (ap (λ (x : Outcome). x.store) e);
    }

outcome_as : (c : Lent) (s b : List ℕ) {r : Answer} {s' b' : List ℕ} (f : Refusal) → refusal c ≡ f → c.store_room ≡ length s → c.coding_room ≡ length b →
    Answers f (coding c) s b r s' b' → Answered c r s' b'
unfolding outcome
outcome_as c s b {r} {s'} {b'} f e es eb q = go f.number refl
  where
    o : outcome c ≡ outcome_of f c
    o = ap (λ (x : Refusal). outcome_of x c) e

    store : s' ≡ padded c.store_room []
    store = q.store ∙ ap (λ (x : ℕ). padded x []) (sym es)

    go : (n : ℕ) → f.number ≡ n → Answered c r s' b'
    go zero z =
        let a = q.accepted (q.number ∙ z) in
        same_as c r s' b' (acceptance c) (o ∙ accepted_as f c z) q.case (q.number ∙ z) a.0 a.1 a.2 (a.3 ∙ ap (λ (x : ℕ). padded x (coding c).out) (sym eb)) store
    go (suc n) z =
        let a = q.refused (λ h. absurd (omega (arith, h, q.number, z))) in
        same_as c r s' b' (rejection c (suc n) f.place) (o ∙ rejected_as f c n z) q.case (q.number ∙ z) a.0 a.1 a.2 (a.3 ∙ ap (λ (x : ℕ). padded x []) (sym eb)) store

-- questions 1 to 3
first_three : (cells : List ℕ) (initial width : ℕ) (text s b : List ℕ) → first_refusal cells initial width 7281 (length text) ≡ 0 →
    refusal (lent cells initial width text s b) ≡ question4 (lent cells initial width text s b)
unfolding refusal
first_three cells initial width text s b e = rw (e, refusal) refl

pub refused_first : {e : refusals.Refusal} (cells : List ℕ) (initial width : ℕ) (text s b : List ℕ) {r : Answer} {s' b' : List ℕ} →
    its.number_of e ≡ first_refusal cells initial width 7281 (length text) → its.place_of e ≡ 0 → Refuses e s b r s' b' → Answered (lent cells initial width text s b) r s' b'
unfolding refusal
refused_first {e} cells initial width text s b {r} {s'} {b'} n p g = go (its.number_of e) refl
  where
    go : (q : ℕ) → its.number_of e ≡ q → Answered (lent cells initial width text s b) r s' b'
    go zero z = absurd (omega (arith, some_number e, z))
    go (suc q) z =
        let c = lent cells initial width text s b in
        let w : refusal c ≡ refuse (its.number_of e) (its.place_of e) = rw (sym n ∙ z, refusal) (ap₂ refuse (sym z) (sym p)) in
        outcome_as c s b (refuse (its.number_of e) (its.place_of e)) w refl refl (refused_as (refuse (its.number_of e) (its.place_of e)) (coding c) refl g)

-- questions 4 to 8
module _ (cells : List ℕ) (initial width : ℕ) (text s b s₁ : List ℕ) (xs : List Character) (p : Result (Option Target) refusals.Refusal)
    (d : Planned (asked cells initial width text s (length b)) p s₁ xs) where
  abbrev c : Lent
  c = lent cells initial width text s b

  pub leading : {l : Target} → p ≡ Ok (Some l) → Leading (eqb width 1) (coding c) l s₁ (take l.count xs)
  unfolding leads taken
  leading e = subst (λ (x : Result (Option Target) refusals.Refusal). leads x (eqb width 1) (coding c) s₁ (taken x xs)) e d.found

  pub answered_nothing : {r : Answer} {s' b' : List ℕ} → first_refusal cells initial width 7281 (length text) ≡ 0 → p ≡ Ok None → length s₁ ≡ length s →
      ((k : Coded) → k.out ≡ [] → k.gap ≡ 0 → Answers (question8 (length b) k) k s₁ b r s' b') → Answered c r s' b'
  unfolding planned leads taken
  answered_nothing z e m q =
      let h = subst (λ (x : Result (Option Target) refusals.Refusal). leads x (eqb width 1) (coding c) s₁ (taken x xs)) e d.found in
      outcome_as c s₁ b (question8 (length b) (coding c)) (first_three cells initial width text s b z ∙ d.answer ∙ ap (λ (x : Result (Option Target) refusals.Refusal). planned x (length b) (coding c)) e)
      (sym m) refl (q (coding c) h.0 h.1)

  pub answered_written : {l : Target} {r : Answer} {s' b' : List ℕ} → first_refusal cells initial width 7281 (length text) ≡ 0 → p ≡ Ok (Some l) →
      length s₁ ≡ length s → Answers (question8 (length b) (coding c)) (coding c) s₁ b r s' b' → Answered c r s' b'
  unfolding planned
  answered_written {s' = s'} {b' = b'} z e m q =
      outcome_as c s₁ b (question8 (length b) (coding c)) (first_three cells initial width text s b z ∙ d.answer ∙ ap (λ (x : Result (Option Target) refusals.Refusal). planned x (length b) (coding c)) e)
      (sym m) refl q

  pub answered_refused : {x : refusals.Refusal} {r : Answer} {s' b' : List ℕ} → first_refusal cells initial width 7281 (length text) ≡ 0 → p ≡ Err x →
      length s₁ ≡ length s → Refuses x s₁ b r s' b' → Answered c r s' b'
  unfolding planned
  answered_refused {x} z e m q =
      outcome_as c s₁ b (refuse (its.number_of x) (its.place_of x))
      (first_three cells initial width text s b z ∙ d.answer ∙ ap (λ (y : Result (Option Target) refusals.Refusal). planned y (length b) (coding c)) e) (sym m) refl
      (refused_as (refuse (its.number_of x) (its.place_of x)) (coding c) refl q)
