-- The questions of a coding call in their order: what an accepted call has passed, what one that is answered 8 has not, and that the store decides
-- none but 7. Assumes nothing.
use mathlib.Core.Path.{◌≡◌, refl, sym, ◌∙◌, subst}
use mathlib.Core.Bool.{Bool, true, false, cond, ◌&&◌, false≢true}
use mathlib.Core.List.{List, [], ◌∷◌, map}
use mathlib.Core.Option.{Option, none, some}
use mathlib.Core.Logic.{inl, inr}
use Prim.Native.Nat.{ℕ, zero, suc, ◌+◌, ◌*◌, ◌≤◌, ◌<◌, ◌/◌}
use native.Mathlib.Omega.{arith}
use lib.Dec.{leb}
use lib.ListN.{length}
use borrow.Author.Tests.{le-leb, leb-true, leb-false}
use Rattle.std.specs.Prelude.{Option as Optional, Some, None}
use Rattle.questions.specs.Questions.{cells_hold, options_hold, length_holds, first_refusal, encode_limit}
use Rattle.questions.proofs.Refusals.{passed as passed-three}
use Rattle.utf8.specs.Utf8.{first_fault}
use Rattle.coding.specs.Tokens.{tokens, baseless}
use Rattle.coding.specs.Search.{Coded}
use Rattle.base.specs.Lists.{All}
use Rattle.coding.specs.Store.{Counts, counts, numbers, states, needs, needs_states, fit, fit_states}
use Rattle.coding.specs.Call.{Lent, ordering, choices, coding, without, Refusal, refuse, question4, question5, question6, question7, question8, refusal, outcome_of, outcome}
use Rattle.laws_coding.specs.Coding.{lending, Alike, StoreFree, MoreStore, LargerStore, AcceptedText, ButForRoom}

-- the first refusal, the answers to 1 to 6 being known, and more the rest
abbrev answers : ℕ → Optional ℕ → Option ℕ → Option ℕ → Refusal → Refusal
answers q t b w more =
    elim q [
      | zero ↦ elim t [ Some p ↦ refuse 4 p | None ↦ elim b [ some p ↦ refuse 5 p | none ↦ elim w [ some p ↦ refuse 6 p | none ↦ more ] ] ]
      | suc q ↦ refuse (suc q) 0
    ]

not_seven : (q : ℕ) (t : Optional ℕ) (b w : Option ℕ) (fits room : Bool) (more : Refusal) → ((answers q t b w (cond fits more (refuse 7 0))).number ≡ 7 → ⊥) →
    ((answers q t b w (cond room more (refuse 7 0))).number ≡ 7 → ⊥) → answers q t b w (cond fits more (refuse 7 0)) ≡ answers q t b w (cond room more (refuse 7 0))
not_seven (suc q) t b w fits room more h k = refl
not_seven zero (Some p) b w fits room more h k = refl
not_seven zero None (some p) w fits room more h k = refl
not_seven zero None none (some p) fits room more h k = refl
not_seven zero None none none true true more h k = refl
not_seven zero None none none true false more h k = absurd (k refl)
not_seven zero None none none false room more h k = absurd (h refl)

-- 7 where more fits is 7 where less does
seven : (q : ℕ) (t : Optional ℕ) (b w : Option ℕ) (fits room : Bool) (more : Refusal) → (fits ≡ true → room ≡ true) → (more.number ≡ 7 → ⊥) →
    (answers q t b w (cond room more (refuse 7 0))).number ≡ 7 → (answers q t b w (cond fits more (refuse 7 0))).number ≡ 7
seven (suc q) t b w fits room more m k e = e
seven zero (Some p) b w fits room more m k e = e
seven zero None (some p) w fits room more m k e = e
seven zero None none (some p) fits room more m k e = e
seven zero None none none false room more m k e = refl
seven zero None none none true true more m k e = absurd (k e)
seven zero None none none true false more m k e = absurd (false≢true (m refl))

passed : (q : ℕ) (t : Optional ℕ) (b w : Option ℕ) (fits room : Bool) → (answers q t b w (cond fits (cond room (refuse 0 0) (refuse 8 0)) (refuse 7 0))).number ≡ 0 → (q ≡ 0) ×
    (w ≡ none) × (room ≡ true)
passed zero None none none true true e = (refl, refl, refl)
passed zero None none none true false e = absurd (omega arith)
passed zero None none none false room e = absurd (omega arith)
passed zero None none (some p) fits room e = absurd (omega arith)
passed zero None (some p) w fits room e = absurd (omega arith)
passed zero (Some p) b w fits room e = absurd (omega arith)
passed (suc q) t b w fits room e = absurd (omega arith)

eight : (q : ℕ) (t : Optional ℕ) (b w : Option ℕ) (fits room : Bool) → q ≤ 3 → (answers q t b w (cond fits (cond room (refuse 0 0) (refuse 8 0)) (refuse 7 0))).number ≡ 8 → (q ≡ 0) ×
    (room ≡ false)
eight zero None none none true false h e = (refl, refl)
eight zero None none none true true h e = absurd (omega arith)
eight zero None none none false room h e = absurd (omega arith)
eight zero None none (some p) fits room h e = absurd (omega arith)
eight zero None (some p) w fits room h e = absurd (omega arith)
eight zero (Some p) b w fits room h e = absurd (omega arith)
eight (suc q) t b w fits room h e = absurd (omega arith)

three : (cells options fits : Bool) → cond cells (cond options (cond fits 0 3) 2) 1 ≤ 3
three true true true = omega arith
three true true false = omega arith
three true false fits = omega arith
three false options fits = omega arith

number_is : (number place : ℕ) (c : Lent) → (outcome_of (refuse number place) c).refused ≡ number
unfolding outcome_of
number_is zero place c = refl
number_is (suc q) place c = refl

-- what a call that is accepted has passed, and what it gives
pub record Passes (c : Lent) : Type 0 where
  pub short : length c.text ≤ encode_limit
  pub choice : without (ordering c) (choices c) ≡ none
  pub fits : length (coding c).out ≤ c.coding_room
  pub given : outcome c ≡ outcome_of (refuse 0 0) c

given_by : (number place : ℕ) (c : Lent) → number ≡ 0 → outcome_of (refuse number place) c ≡ outcome_of (refuse 0 0) c
unfolding outcome_of
given_by zero place c e = refl
given_by (suc q) place c e = absurd (omega arith)

-- questions 1 to 3, and question 7's test
abbrev first : Lent → ℕ
first c = first_refusal c.cells c.initial c.width encode_limit (length c.text)

short_text : (c : Lent) → first c ≡ 0 → length c.text ≤ encode_limit
short_text c e = (passed-three c.cells c.initial c.width encode_limit (length c.text) e).within

abbrev fits : Lent → ℕ → Bool
fits c room = fit room (needs (choices c) c.initial)

pub passes : (c : Lent) → (outcome c).refused ≡ 0 → Passes c
unfolding outcome refusal question4 question5 question6 question7 question8
passes c h =
    let e : (refusal c).number ≡ 0 = sym (number_is (refusal c).number (refusal c).place c) ∙ h in
    let p = passed (first c) (first_fault c.text) (baseless false (tokens c.text)) (without (ordering c) (choices c)) (fits c c.store_room) (leb (length (coding c).out) c.coding_room) e in
    record {
      short = short_text c p.0;
      choice = p.1;
      fits = leb-true _ _ p.2;
      given = given_by (refusal c).number (refusal c).place c e;
    }

-- what a call that is answered 8 has passed, and what it has not
pub record Overfull (c : Lent) : Type 0 where
  pub short : length c.text ≤ encode_limit
  pub over : c.coding_room < length (coding c).out

pub overfull : (c : Lent) → (outcome c).refused ≡ 8 → Overfull c
unfolding outcome refusal question4 question5 question6 question7 question8 first_refusal
overfull c h =
    let p = eight (first c) (first_fault c.text) (baseless false (tokens c.text)) (without (ordering c) (choices c)) (fits c c.store_room)
    (leb (length (coding c).out) c.coding_room) (three (cells_hold c.cells) (options_hold c.initial c.width) (length_holds encode_limit (length c.text)))
    (sym (number_is (refusal c).number (refusal c).place c) ∙ h) in
    record { short = short_text c p.0; over = leb-false _ _ p.1 }

-- whatever the store
alike : (number place : ℕ) (c : Lent) (n : ℕ) → Alike (outcome_of (refuse number place) c) (outcome_of (refuse number place) (lending c n))
unfolding outcome_of coding choices ordering
alike zero place c n = record { refused = refl; place = refl; length = refl; gap = refl; buffer = refl }
alike (suc q) place c n = record { refused = refl; place = refl; length = refl; gap = refl; buffer = refl }

pub whatever_store : StoreFree
unfolding outcome refusal question4 question5 question6 question7
whatever_store c n h k =
    let e : refusal c ≡ refusal (lending c n) =
    not_seven (first c) (first_fault c.text) (baseless false (tokens c.text)) (without (ordering c) (choices c)) (fits c c.store_room) (fits c n) (question8 c.coding_room (coding c))
    (λ x. h (number_is (refusal c).number (refusal c).place c ∙ x)) (λ x. k (number_is (refusal (lending c n)).number (refusal (lending c n)).place (lending c n) ∙ x)) in
    subst (λ (r : Refusal). Alike (outcome c) (outcome_of r (lending c n))) e (alike (refusal c).number (refusal c).place c n)

-- what fits by one count fits by another that is no more than the room allows
fit_by : (f g : Counts → ℕ) (a b : ℕ) → ((n : Counts) → f n ≤ a → g n ≤ b) → (l : List Counts) → fit a (map f l) ≡ true → fit b (map g l) ≡ true
unfolding fit
fit_by f g a b h [] e = refl
fit_by f g a b h (n ∷ l) e = go (leb (f n) a) refl e (fit_by f g a b h l)
  where
    go : (t : Bool) → leb (f n) a ≡ t → (t && fit a (map f l)) ≡ true → (fit a (map f l) ≡ true → fit b (map g l) ≡ true) → (leb (g n) b && fit b (map g l)) ≡ true
    go true k e r = rw (le-leb (g n) b (h n (leb-true (f n) a k))) (r e)
    go false k e r = absurd (false≢true e)

not_eight : (room : ℕ) (k : Coded) → (question8 room k).number ≡ 7 → ⊥
unfolding question8
not_eight room k = go (leb (length k.out) room)
  where
    go : (t : Bool) → (cond t (refuse 0 0) (refuse 8 0)).number ≡ 7 → ⊥
    go true e = absurd (omega arith)
    go false e = absurd (omega arith)

pub with_more : MoreStore
unfolding outcome refusal question4 question5 question6 question7 needs
with_more c n h m =
    whatever_store c n h (λ e. h (number_is (refusal c).number (refusal c).place c ∙
    seven (first c) (first_fault c.text) (baseless false (tokens c.text)) (without (ordering c) (choices c)) (fits c c.store_room) (fits c n) (question8 c.coding_room (coding c))
    (fit_by numbers numbers c.store_room n (λ x k. omega arith) (counts (choices c) c.initial)) (not_eight c.coding_room (coding c))
    (sym (number_is (refusal (lending c n)).number (refusal (lending c n)).place (lending c n)) ∙ e)))

-- a layer's states in four numbers each
pub four_each : (l : List Counts) → All (λ n. numbers n ≤ 4 * states n) l
four_each [] = tt
four_each (n ∷ l) = (omega arith, four_each l)

not_answered : (q : ℕ) (t : Optional ℕ) (b w : Option ℕ) (fits : Bool) (more : Refusal) → q ≤ 3 → fits ≡ true → (more.number ≡ 7 → ⊥) →
    (answers q t b w (cond fits more (refuse 7 0))).number ≡ 7 → ⊥
not_answered (suc q) t b w fits more h f k e = absurd (omega arith)
not_answered zero (Some p) b w fits more h f k e = absurd (omega arith)
not_answered zero None (some p) w fits more h f k e = absurd (omega arith)
not_answered zero None none (some p) fits more h f k e = absurd (omega arith)
not_answered zero None none none true more h f k e = k e
not_answered zero None none none false more h f k e = absurd (false≢true f)

pub still_fits : (c : Lent) → fit_states c.store_room (needs_states (choices c) c.initial) ≡ true → (outcome c).refused ≡ 7 → ⊥
unfolding outcome refusal question4 question5 question6 question7 first_refusal needs needs_states
still_fits c f e =
    not_answered (first c) (first_fault c.text) (baseless false (tokens c.text)) (without (ordering c) (choices c)) (fits c c.store_room) (question8 c.coding_room (coding c))
    (three (cells_hold c.cells) (options_hold c.initial c.width) (length_holds encode_limit (length c.text)))
    (fit_by states numbers (c.store_room / 4) c.store_room (λ x k. omega arith) (counts (choices c) c.initial) f)
    (not_eight c.coding_room (coding c)) (sym (number_is (refusal c).number (refusal c).place c) ∙ e)

pub accepted_still : (c : Lent) (n : ℕ) → (outcome (lending c n)).refused ≡ 0 → fit_states c.store_room (needs_states (choices c) c.initial) ≡ true → (outcome c).refused ≡ 0
accepted_still c n e f = (whatever_store c n (still_fits c f) (λ x. absurd (omega (arith, e, x)))).refused ∙ e

pub as_in_larger : LargerStore
unfolding choices ordering
as_in_larger c n h f = whatever_store c n h (still_fits (lending c n) f)

-- ---- An accepted text

-- what is accepted in some rooms is refused for room alone in others
room_alone : (q : ℕ) (t : Optional ℕ) (b w : Option ℕ) (fits room fits' room' : Bool) → (answers q t b w (cond fits (cond room (refuse 0 0) (refuse 8 0)) (refuse 7 0))).number ≡ 0
    → ButForRoom (answers q t b w (cond fits' (cond room' (refuse 0 0) (refuse 8 0)) (refuse 7 0))).number
room_alone (suc q) t b w fits room fits' room' e = absurd (omega arith)
room_alone zero (Some p) b w fits room fits' room' e = absurd (omega arith)
room_alone zero None (some p) w fits room fits' room' e = absurd (omega arith)
room_alone zero None none (some p) fits room fits' room' e = absurd (omega arith)
room_alone zero None none none fits room false room' e = inr (inl refl)
room_alone zero None none none fits room true false e = inr (inr refl)
room_alone zero None none none fits room true true e = inl refl

another : (q : ℕ) → 1 ≤ q → (q ≡ 7 → ⊥) → (q ≡ 8 → ⊥) → ButForRoom q → ⊥
another q h n m (inl e) = omega arith
another q h n m (inr (inl e)) = n e
another q h n m (inr (inr e)) = m e

-- what is refused for room alone is accepted where there is room
with_room : (q : ℕ) (t : Optional ℕ) (b w : Option ℕ) (fits room fits' room' : Bool) → q ≤ 3 → fits' ≡ true → room' ≡ true
    → ButForRoom (answers q t b w (cond fits (cond room (refuse 0 0) (refuse 8 0)) (refuse 7 0))).number
    → (answers q t b w (cond fits' (cond room' (refuse 0 0) (refuse 8 0)) (refuse 7 0))).number ≡ 0
with_room (suc q) t b w fits room fits' room' h f r e = absurd (another (suc q) (omega arith) (λ z. omega arith) (λ z. omega arith) e)
with_room zero (Some p) b w fits room fits' room' h f r e = absurd (another 4 (omega arith) (λ z. omega arith) (λ z. omega arith) e)
with_room zero None (some p) w fits room fits' room' h f r e = absurd (another 5 (omega arith) (λ z. omega arith) (λ z. omega arith) e)
with_room zero None none (some p) fits room fits' room' h f r e = absurd (another 6 (omega arith) (λ z. omega arith) (λ z. omega arith) e)
with_room zero None none none fits room false room' h f r e = absurd (false≢true f)
with_room zero None none none fits room true false h f r e = absurd (false≢true r)
with_room zero None none none fits room true true h f r e = refl

-- a store that suffices
total : List ℕ → ℕ
total [] = 0
total (n ∷ ns) = n + total ns

total_fits : (m : ℕ) (ns : List ℕ) → total ns ≤ m → fit m ns ≡ true
unfolding fit total
total_fits m [] h = refl
total_fits m (n ∷ ns) h = rw (le-leb n m (omega arith)) (total_fits m ns (omega arith))

abbrev in_rooms : Lent → ℕ → ℕ → Lent
in_rooms c n m = record { cells = c.cells; initial = c.initial; width = c.width; text = c.text; store_room = n; coding_room = m }

abbrev holds : Lent → ℕ → Bool
holds c room = leb (length (coding c).out) room

number_of : (c : Lent) → (outcome c).refused ≡ (refusal c).number
unfolding outcome
number_of c = number_is (refusal c).number (refusal c).place c

module _ (c : Lent) where
  pub but_for_room : AcceptedText c → ButForRoom (outcome c).refused
  unfolding refusal question4 question5 question6 question7 question8 coding choices ordering
  but_for_room a =
      subst ButForRoom (sym (number_of c))
      (room_alone (first c) (first_fault c.text) (baseless false (tokens c.text)) (without (ordering c) (choices c))
      (fits c a.store_room) (holds c a.coding_room) (fits c c.store_room) (holds c c.coding_room)
      (sym (number_of (in_rooms c a.store_room a.coding_room)) ∙ a.accepted))

  pub with_enough : ButForRoom (outcome c).refused → AcceptedText c
  unfolding refusal question4 question5 question6 question7 question8 first_refusal coding choices ordering
  with_enough e =
      let store = total (needs (choices c) c.initial) in
      let room = length (coding c).out in
      record {
        store_room = store;
        coding_room = room;
        accepted =
            number_of (in_rooms c store room)
            ∙ with_room (first c) (first_fault c.text) (baseless false (tokens c.text)) (without (ordering c) (choices c))
            (fits c c.store_room) (holds c c.coding_room) (fits c store) (holds c room)
            (three (cells_hold c.cells) (options_hold c.initial c.width) (length_holds encode_limit (length c.text)))
            (total_fits store (needs (choices c) c.initial) (omega arith)) (le-leb room room (omega arith)) (subst ButForRoom (number_of c) e);
      }
