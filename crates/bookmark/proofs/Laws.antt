-- The laws of bookmarks, by name: specs/Laws.antt states them. Assumes nothing.
use Prim.Native.Nat.{ℕ, zero, suc, ◌+◌, ◌*◌, ◌≤◌, ◌<◌}
use mathlib.Core.Path.{◌≡◌, refl, sym, ap, ◌∙◌, subst}
use mathlib.Core.Bool.{Bool, true, false, cond, ◌&&◌}
use mathlib.Core.List.{List, [], ◌++◌, append-nil}
use native.Mathlib.Decide.{ℕ_discrete}
use native.Mathlib.Omega.{arith}
use borrow.Author.Tests.{le-leb, eq-eqb, leb-true, ltb-true, ltb-false}
use lib.Dec.{eqb, ltb, leb}
use lib.ListN.{length, drop, get_or}
use lib.Seq.{get_or-take, get_or-drop}
use Rattle.utf8.specs.Utf8.{utf8s}
use Rattle.private_use.specs.PrivateUse.{private_use}
use Rattle.questions.specs.Buffer.{padded}
use Rattle.issues.specs.Issue.{Issue, issues_numbers}
use Rattle.decode_output.specs.Output.{release}
use Rattle.reading.specs.State.{State, writes}
use Rattle.reading.specs.Steps.{steps, run, decode}
use Rattle.reading.specs.Between.{before, rest}
use Rattle.reading.specs.Call as decoding
use Rattle.reading.specs.WithoutBuffers as unbuffered
use Rattle.laws_behind.specs.Behind.{behind}
use Rattle.laws_behind.proofs.Behind.{reads_alike}
use Rattle.laws_between.specs.Between.{Sound}
use Rattle.laws_between.proofs.Between.{between_sound, between_within, steps_on}
use Rattle.bookmark_form.specs.Numbers.{numbers, place_of, state_of}
use Rattle.bookmark_form.specs.Form.{is_store, named, resumable, all_below}
use Rattle.bookmark_form.proofs.Below.{below_at, below_all}
use Rattle.bookmark_form.proofs.Places.{length_numbers, head_of, text_at, state_of_numbers}
use Rattle.bookmark_form.proofs.Passing.{numbers_resumable}
use Rattle.bookmark.specs.Bookmark.{
  given_of,
  name_holds,
  Setting,
  reached,
  set_refusal,
  replaced,
  WasSet,
  set_by,
  was_set,
  Returning,
  positioned,
  resumed,
  bookmark,
  rest_of,
  may_return,
  fits,
  return_refusal_of,
  return_refusal,
  returned_by,
  returned,
}
use Rattle.bookmark.specs.Laws.{without_text, StateDetermined, back, Continues, PartAndRest, in_store, SetAgain, OthersKept, RefusedKeeps, ReturnsAlike}
use Rattle.bookmark.proofs.Replacing.{length_put, put_there, other_before, other_behind, put_again}
use Rattle.bookmark.proofs.Refusals.{both, Accepted, accepted, set_stored, set_place, place_known, name_known, may}
use Rattle.bookmark.proofs.Reaching.{short_input, store_long}

-- ---- a state and its numbers

pub state_determined : StateDetermined
unfolding writes without_text
state_determined g g' initial initial' place place' few few' e =
    let s = (before g initial place).state in
    let s' = (before g' initial' place').state in
    let a = between_sound g initial place in
    let b = between_sound g' initial' place' in
    let p = head_of place s a.four a.starts a.lens in
    let q = head_of place' s' b.four b.starts b.lens in (
      sym p.at ∙ ap place_of e ∙ q.at,
      sym (state_of_numbers place s a.four a.starts a.lens few) ∙ ap state_of e ∙ state_of_numbers place' s' b.four b.starts b.lens few',
    )

-- ---- the store

module _ (c : Setting) (ok : set_refusal c ≡ 0) where
  passes : Accepted c
  passes = accepted c ok

  name≤ : c.name ≤ 15
  name≤ = (name_known c.store c.name passes.name).0

  long : length c.store ≡ 4592
  long = store_long c.store (name_known c.store c.name passes.name).1

  at_place : (reached c).at ≡ c.place
  at_place = (place_known (reached c) c.place passes.place).0

  few : length (reached c).state.out.marks ≤ 16
  few = (place_known (reached c) c.place passes.place).1

  sound : Sound c.lent.input (reached c).state
  sound = between_sound (given_of c.lent) c.lent.initial c.place

  list_long : length (numbers c.place (reached c).state) ≡ 287
  list_long = length_numbers c.place (reached c).state sound.four sound.starts sound.lens

  room : c.name * 287 + 287 ≤ length c.store
  room = omega (arith, name≤, long)

  stored : (was_set c).store ≡ replaced c.store c.name (numbers c.place (reached c).state)
  stored = ap (λ (y : WasSet). y.store) (set_stored c ok)

  -- the name's numbers are those of the state
  own : named (was_set c).store c.name ≡ numbers c.place (reached c).state
  own = ap (λ (z : List ℕ). named z c.name) stored ∙ put_there c.store (c.name * 287) (numbers c.place (reached c).state) room list_long

  others : (k : ℕ) → k < 16 → (k ≡ c.name → ⊥) → named (was_set c).store k ≡ named c.store k
  others k h f = ap (λ (z : List ℕ). named z k) stored ∙ go (ltb k c.name) refl
    where
      go : (b : Bool) → ltb k c.name ≡ b → named (replaced c.store c.name (numbers c.place (reached c).state)) k ≡ named c.store k
      go true e = other_before c.store (c.name * 287) (numbers c.place (reached c).state) room list_long (k * 287) (omega (arith, ltb-true k c.name e))
      go false e = other_behind c.store (c.name * 287) (numbers c.place (reached c).state) room list_long (k * 287) (omega (arith, ltb-false k c.name e, f))

  stored_long : length (was_set c).store ≡ 4592
  stored_long = ap length stored ∙ length_put c.store (c.name * 287) (numbers c.place (reached c).state) room list_long ∙ long

  head : get_or (numbers c.place (reached c).state) 0 0 ≡ 1
  head = (head_of c.place (reached c).state sound.four sound.starts sound.lens).set

  -- it is a store of bookmarks still
  first_of : (store : List ℕ) (k : ℕ) → get_or (named store k) 0 0 ≡ get_or store (k * 287) 0
  first_of store k =
      let e : k * 287 + 0 ≡ k * 287 = omega arith in
      get_or-take 287 (drop (k * 287) store) 0 0 (omega arith) ∙ get_or-drop (k * 287) store 0 0 ∙ ap (λ (n : ℕ). get_or store n 0) e

  still : is_store (was_set c).store ≡ true
  unfolding is_store
  still = rw (eq-eqb (length (was_set c).store) 4592 stored_long) (below_all 16 (λ k. leb (get_or (was_set c).store (k * 287) 0) 1) each)
    where
      before_it : (k : ℕ) → k < 16 → get_or c.store (k * 287) 0 ≤ 1
      before_it k h =
          let t = (both (eqb (length c.store) 4592) (all_below 16 (λ k. leb (get_or c.store (k * 287) 0) 1)) (name_known c.store c.name passes.name).1).1 in
          leb-true (get_or c.store (k * 287) 0) 1 (below_at 16 (λ k. leb (get_or c.store (k * 287) 0) 1) t k h)

      first : (k : ℕ) → k < 16 → Dec (k ≡ c.name) → get_or (was_set c).store (k * 287) 0 ≤ 1
      first k h (yes e) =
          let z = sym (first_of (was_set c).store k) ∙ ap (λ (n : ℕ). get_or (named (was_set c).store n) 0 0) e ∙ ap (λ (l : List ℕ). get_or l 0 0) own ∙ head in
          omega (arith, z)
      first k h (no f) =
          let z = sym (first_of (was_set c).store k) ∙ ap (λ (l : List ℕ). get_or l 0 0) (others k h f) ∙ first_of c.store k in
          omega (arith, z, before_it k h)

      each : (k : ℕ) → k < 16 → leb (get_or (was_set c).store (k * 287) 0) 1 ≡ true
      each k h = le-leb (get_or (was_set c).store (k * 287) 0) 1 (first k h (ℕ_discrete k c.name))

  name_still : name_holds (was_set c).store c.name ≡ true
  unfolding name_holds
  name_still = rw (le-leb c.name 15 name≤, still)

  -- ---- the rest

  -- the whole reading is the rest from there
  whole : unbuffered.reading c.lent ≡ rest (given_of c.lent) c.place (reached c).state
  unfolding unbuffered.reading decoding.reading decode rest
  whole =
      ap (writes release) (sym (steps_on (given_of c.lent) c.lent.initial c.place))
      ∙ ap (λ (n : ℕ). rest (given_of c.lent) n (reached c).state) at_place

  -- and the state is the bare one, behind them
  state_behind : (reached c).state ≡ writes (behind (reached c).state.out.text (reached c).state.out.issues) (writes without_text (reached c).state)
  unfolding writes behind without_text
  state_behind =
      let s = (reached c).state in
      λ k.
      record {
        sets = s.sets;
        gl = s.gl;
        gr = s.gr;
        narrow = s.narrow;
        starts = s.starts;
        lens = s.lens;
        charged = s.charged;
        out =
            record {
              text = sym (append-nil s.out.text) k;
              marks = s.out.marks;
              marks_at = s.out.marks_at;
              repeat = s.out.repeat;
              issues = sym (append-nil s.out.issues) k;
            };
      }

  rest_behind : (text : List ℕ) (issues : List Issue) (n : ℕ) (s : State) → rest (given_of c.lent) n (writes (behind text issues) s)
      ≡ writes (behind text issues) (rest (given_of c.lent) n s)
  unfolding rest
  rest_behind text issues n s =
      let x = given_of c.lent in
      ap (writes release) (reads_alike.steps x 4 (run x 3) (reads_alike.run x 3) text issues 0 0 (drop n x.input) n 0 s)
      ∙ reads_alike.released text issues (steps x 4 (run x 3) 0 0 (drop n x.input) n 0 s)

  read : unbuffered.reading c.lent
      ≡ writes (behind (reached c).state.out.text (reached c).state.out.issues) (rest (given_of c.lent) c.place (writes without_text (reached c).state))
  read =
      let s = (reached c).state in
      whole
      ∙ ap (rest (given_of c.lent) c.place) state_behind
      ∙ rest_behind s.out.text s.out.issues c.place (writes without_text s)

  -- what the numbers say
  numbers_say : state_of (numbers c.place (reached c).state) ≡ writes without_text (reached c).state
  unfolding writes without_text
  numbers_say = state_of_numbers c.place (reached c).state sound.four sound.starts sound.lens few

  rest_of_lem : (text_room issue_room : ℕ) → rest_of (back c text_room issue_room)
      ≡ writes (positioned (length (utf8s (reached c).state.out.text))) (rest (given_of c.lent) c.place (writes without_text (reached c).state))
  unfolding resumed
  rest_of_lem text_room issue_room =
      let s = (reached c).state in
      let h = head_of c.place s sound.four sound.starts sound.lens in
      ap (resumed (given_of c.lent)) own
      ∙ (λ k.
      writes (positioned (text_at c.place s sound.four sound.starts sound.lens k)) (rest (given_of c.lent) (h.at k) (numbers_say k)))

  pub part_and_rest_of : (text_room issue_room : ℕ) → Continues c text_room issue_room
  unfolding writes behind positioned
  part_and_rest_of text_room issue_room =
      let e = rest_of_lem text_room issue_room in
      let resumes = numbers_resumable c.lent.input c.place (reached c).state sound
      (omega (arith, between_within (given_of c.lent) c.lent.initial c.place, at_place)) (short_input c.lent passes.questions) few in
      record {
        may = may (back c text_room issue_room) (sym own) name_still head resumes;
        text = ap (λ (z : State). z.out.text) read ∙ ap (λ (z : State). (reached c).state.out.text ++ z.out.text) (sym e);
        issues = ap (λ (z : State). z.out.issues) read ∙ ap (λ (z : State). (reached c).state.out.issues ++ z.out.issues) (sym e);
        charged = ap (λ (z : State). z.charged) read ∙ ap (λ (z : State). z.charged) (sym e);
      }

pub part_and_rest : PartAndRest
part_and_rest c text_room issue_room ok = part_and_rest_of c ok text_room issue_room

-- ---- settings

pub refused_keeps : RefusedKeeps
unfolding was_set set_by
refused_keeps c q e = ap (λ (n : ℕ). (set_by n c).store) e

pub others_kept : OthersKept
others_kept c k ok h f = others c ok k h f

pub set_again : SetAgain
set_again c d ok same_name same_Store ok' =
    let again : Setting = in_store d (was_set c).store in
    let p = accepted d ok' in
    let named-still = subst (λ (n : ℕ). name_holds (was_set c).store n ≡ true) same_name (name_still c ok) in
    let accepts : set_refusal again ≡ 0 = set_place again p.questions named-still true p.place in
    ap (λ (y : WasSet). y.store) (set_stored again accepts)
    ∙ ap (λ (z : List ℕ). replaced z d.name (numbers d.place (reached d).state))
    (stored c ok ∙ ap (λ (n : ℕ). replaced c.store n (numbers c.place (reached c).state)) same_name)
    ∙ put_again c.store (d.name * 287) (numbers c.place (reached c).state) (omega (arith, room c ok, same_name)) (list_long c ok) (numbers d.place (reached d).state)
    ∙ ap (λ (z : List ℕ). replaced z d.name (numbers d.place (reached d).state)) (sym same_Store)
    ∙ sym (stored d ok')

-- ---- returns

module _ (c d : Returning) (e : c.lent ≡ d.lent) (t : c.text_room ≡ d.text_room) (i : c.issue_room ≡ d.issue_room)
    (n : name_holds c.store c.name ≡ name_holds d.store d.name) (b : bookmark c ≡ bookmark d) where
  same_rest : rest_of c ≡ rest_of d
  same_rest = λ k. resumed (given_of (e k)) (b k)

  same_may : may_return c ≡ may_return d
  unfolding may_return
  same_may = λ k. n k && (eqb (get_or (b k) 0 0) 1 && resumable (e k).input (b k))

  same_fits : fits c ≡ fits d
  unfolding fits
  same_fits = λ k. cond (leb (length (utf8s (same_rest k).out.text)) (t k)) (cond (leb (length (issues_numbers (same_rest k).out.issues)) (i k)) 0 9) 8

  same_refusal_of : (q : ℕ) → return_refusal_of q c ≡ return_refusal_of q d
  unfolding return_refusal_of
  same_refusal_of zero = λ k. cond (same_may k) (same_fits k) 15
  same_refusal_of (suc q) = refl

  same_refusal : return_refusal c ≡ return_refusal d
  unfolding return_refusal
  same_refusal = same_refusal_of (unbuffered.refusal c.lent) ∙ ap (λ (x : unbuffered.Lent). return_refusal_of (unbuffered.refusal x) d) e

  same_by : (q : ℕ) → returned_by q c ≡ returned_by q d
  unfolding returned_by
  same_by zero =
      λ k.
      record {
        refused = 0;
        text = length (utf8s (same_rest k).out.text);
        issues = length (same_rest k).out.issues;
        charged = (same_rest k).charged;
        private_use = private_use (same_rest k).out.text;
        text_buffer = padded (t k) (utf8s (same_rest k).out.text);
        issue_buffer = padded (i k) (issues_numbers (same_rest k).out.issues);
      }
  same_by (suc q) =
      λ k. record { refused = suc q; text = 0; issues = 0; charged = 0; private_use = 0; text_buffer = padded (t k) []; issue_buffer = padded (i k) [] }

  same_outcome : returned c ≡ returned d
  unfolding returned
  same_outcome = same_by (return_refusal c) ∙ ap (λ (q : ℕ). returned_by q d) same_refusal

pub returns_alike : ReturnsAlike
returns_alike c d e t i n b = same_outcome c d e t i n b
