-- The answers of the three calls, from what their functions promise. Assumes nothing.
use Prim.Native.Nat.{ℕ, zero, suc, ◌≤◌, ◌<◌}
use mathlib.Core.Path.{◌≡◌, refl, sym, ap, ap₂, subst, ◌∙◌}
use mathlib.Core.Bool.{Bool, true, false, cond}
use mathlib.Core.List.{List, []}
use native.Mathlib.Omega.{arith}
use borrow.Author.Tests.{ltb-true, ltb-false}
use lib.Dec.{T, ltb}
use lib.ListN.{length, take, drop, drop_of_length-le}
use lib.Seq.{length-take-le}
use Rattle.questions.specs.Buffer.{padded}
use Rattle.questions.proofs.Buffers.{length_padded}
use Rattle.catalogue_form.specs.Form.{Entry, value, bytes, entries_of, entries, formed}
use Rattle.catalogue_form.specs.Entries.{numbered, entered, having}
use Rattle.catalogue_form.proofs.Forms.{Parts, parts, formed_held, value_bytes}
use Rattle.catalogue_places.specs.Promises.{before, headed, first_number}
use Rattle.catalogue_changes.specs.Promises.{Holds, put_at, taken_at}
use Rattle.catalogue_changes.proofs.Stores.{rest, entries_lent}
use Rattle.key.specs.Key as key
use Rattle.key.specs.Promises as keys
use Rattle.key.specs.Promises.{KeyAnswer}
use Rattle.key.specs.declared.Keyed.{Keyed}
use Rattle.std.specs.Prelude.{Ok, Err}
use Rattle.questions.specs.declared.refusal.Refusal.{Refusal}
use Rattle.questions.specs.declared.refusal.Refusal.TheVariants.{CatalogueMismatch}
use Rattle.questions.specs.Refusal.{number_of, place_of}
use Rattle.questions.proofs.Refusals.{some_number}
use Rattle.key.proofs.Calls.{len_inside, key_bytes_lem}
use Rattle.catalogue.specs.Catalogue.{Lent, titled, entry_refusal, refusal_of, key_refusal, add_refusal, added_by, removed_by}
use Rattle.catalogue.specs.Promises.{Added, Entered, Removed, Finds}
use Rattle.catalogue.proofs.Order.{before_low, numbered_headed, entered_put, without_taken, smallest_first}
use Rattle.catalogue.proofs.Calls.{added_by_lem, formed_add, removed_by_lem, removes, removes_not, finds, finds_not}

pub holds : (store : List ℕ) (n : ℕ) → formed store ≡ true → n ≡ value store → Holds store n
holds store n f e = record { form = f; count = e ∙ (ap value (formed_held store f).stored ∙ value_bytes (entries store)) }

-- ---- finding

pub found_not : (store k : List ℕ) → formed store ≡ false → Finds store k (Err CatalogueMismatch)
found_not store k e =
    let f = finds_not store k e in
    record { number = ap (λ o. o.refused) (sym f); place = refl; counted = ap (λ o. o.entries) (sym f); smallest = ap (λ o. o.number) (sym f) }

module _ (store : List ℕ) (n : ℕ) (h : Holds store n) where
  up : Parts (entries store)
  up = parts (entries store) (formed_held store h.form).catalogue

  pub found_is : (k : List ℕ) {count first : ℕ} → count ≡ length (having k (entries_of n (rest store n h))) → first ≡ first_number (having k (entries_of n (rest store n h)))
      → Finds store k (Ok (record { entries = count; number = first }))
  found_is k c e =
      let f = finds store k h.form in
      record {
        number = ap (λ o. o.refused) (sym f);
        place = refl;
        counted = c ∙ (ap (λ (es : List Entry). length (having k es)) (entries_lent store n h) ∙ ap (λ o. o.entries) (sym f));
        smallest =
            e
            ∙ (ap (λ (es : List Entry). first_number (having k es)) (entries_lent store n h)
            ∙ (smallest_first k 0 (entries store) up.up ∙ ap (λ o. o.number) (sym f)));
      }

  -- ---- where a number stands

  module _ (number at : ℕ) (p : at ≡ before number (entries_of n (rest store n h))) where
    pub place_is : at ≡ before number (entries store)
    place_is = p ∙ ap (before number) (entries_lent store n h)

    pub place_low : at ≤ n
    place_low = omega (arith, place_is, before_low number (entries store), h.count)

    module _ (present : Bool) (s : present ≡ headed number (drop at (entries_of n (rest store n h)))) where
      pub present_is : present ≡ numbered number (entries store)
      present_is =
          s
          ∙ (ap₂ (λ (i : ℕ) (es : List Entry). headed number (drop i es)) place_is (entries_lent store n h)
          ∙ sym (numbered_headed 0 number (entries store) up.up))

      pub place_inside : present ≡ true → at < n
      place_inside t = go (ltb at n) refl
        where
          go : (b : Bool) → ltb at n ≡ b → at < n
          go true e = ltb-true at n e
          go false e =
              let none : drop at (entries store) ≡ [] = drop_of_length-le (entries store) {i = at} (omega (arith, ltb-false at n e, h.count)) in
              let no-head : headed number (drop at (entries_of n (rest store n h))) ≡ false =
              ap (λ (es : List Entry). headed number (drop at es)) (entries_lent store n h) ∙ ap (headed number) none in
              absurd (subst T (sym (sym no-head ∙ (sym s ∙ t))) tt)

      -- ---- removing

      pub removed_absent : present ≡ false → Removed store number (Err CatalogueMismatch) store
      unfolding removed_by
      removed_absent t =
          let e = removed_by_lem store number 12 (removes store number h.form ∙ ap (λ (b : Bool). cond b 0 12) (sym present_is ∙ t)) in
          record { number = ap (λ o. o.refused) (sym e); place = refl; stored = ap (λ o. o.store) (sym e) }

      pub removed_is : {after : List ℕ} → present ≡ true → after ≡ bytes (taken_at at (entries store)) → Removed store number (Ok tt) after
      unfolding removed_by
      removed_is t b =
          let e = removed_by_lem store number 0 (removes store number h.form ∙ ap (λ (q : Bool). cond q 0 12) (sym present_is ∙ t)) in
          let w = without_taken 0 number (entries store) up.up (sym present_is ∙ t) in
          record {
            number = ap (λ o. o.refused) (sym e);
            place = refl;
            stored = b ∙ (ap (λ (i : ℕ). bytes (taken_at i (entries store))) place_is ∙ (ap bytes (sym w) ∙ ap (λ o. o.store) (sym e)));
          }

      -- ---- entering

      module _ (k : Keyed) (buffer : List ℕ) (room : k.len ≤ length buffer) where
        abbrev e : Entry
        e = record { number = number; key = take k.len buffer }

        refusal_is : (why : ℕ) → why ≡ entry_refusal present k.len n → why ≡ refusal_of e (entries store)
        refusal_is why w =
            w
            ∙ (ap (λ (b : Bool). entry_refusal b k.len n) present_is
            ∙ ap₂ (λ (i j : ℕ). entry_refusal (numbered number (entries store)) i j) (sym (length-take-le k.len buffer room)) h.count)

        pub enter_refused : (x : Refusal) {r : KeyAnswer} {left : List ℕ} → number_of x ≡ entry_refusal present k.len n → place_of x ≡ 0 → r ≡ Err x
            → left ≡ padded (length buffer) [] → Entered e k store buffer r store left
        enter_refused x w p a b = record {
          accepted = λ z. absurd (omega (arith, some_number x, refusal_is (number_of x) w, z));
          refused = λ m q. ((x, a, refusal_is (number_of x) w ∙ q, p), (refl, b));
        }

        pub enter_done : {after : List ℕ} → 0 ≡ entry_refusal present k.len n → after ≡ bytes (put_at at e (entries store)) → Entered e k store buffer (Ok k) after buffer
        enter_done w b = record {
          accepted = λ q. (refl, (b ∙ (ap (λ (i : ℕ). bytes (put_at i e (entries store))) place_is ∙ ap bytes (sym (entered_put e (entries store)))), refl));
          refused = λ m q. absurd (omega (arith, refusal_is 0 w, q));
        }

pub removed_not : (store : List ℕ) (number : ℕ) → formed store ≡ false → Removed store number (Err CatalogueMismatch) store
unfolding removed_by
removed_not store number f =
    let e = removed_by_lem store number 12 (removes_not store number f) in
    record { number = ap (λ o. o.refused) (sym e); place = refl; stored = ap (λ o. o.store) (sym e) }

-- ---- adding

outcome_room : (c : key.Lent) → length (key.outcome c).buffer ≡ c.room
unfolding key.outcome key.outcome_of
outcome_room c = go (key.refusal c)
  where
    go : (q : ℕ) → length (key.outcome_of q c).buffer ≡ c.room
    go zero = length_padded c.room (key.key_bytes c)
    go (suc q) = length_padded c.room []

-- a refused add: the store as it was, the buffer zero
pub added_refused : (c : Lent) (x : Refusal) {buffer : List ℕ} → add_refusal c ≡ number_of x → place_of x ≡ 0 → buffer ≡ padded c.keyed.room [] → Added c (Err x) c.store buffer
unfolding added_by
added_refused c x {buffer} e p b = go (number_of x) refl
  where
    go : (q : ℕ) → number_of x ≡ q → Added c (Err x) c.store buffer
    go zero z = absurd (omega (arith, some_number x, z))
    go (suc q) z =
        let o = sym (added_by_lem c (suc q) (e ∙ z)) in
        record {
          number = z ∙ ap (λ a. a.refused) o;
          case = λ y. absurd (omega (arith, z, y));
          place = p;
          counted = ap (λ a. a.len) o;
          charged = ap (λ a. a.charged) o;
          stored = ap (λ a. a.store) o;
          written = b ∙ ap (λ a. a.buffer) o;
        }

module _ (c : Lent) {r : KeyAnswer} {buffer : List ℕ} (k : keys.Answered c.keyed r buffer) where
  refusal_of_lem : (key.outcome c.keyed).refused ≡ key.refusal c.keyed
  unfolding key.outcome key.outcome_of
  refusal_of_lem = go (key.refusal c.keyed)
    where
      go : (q : ℕ) → (key.outcome_of q c.keyed).refused ≡ q
      go zero = refl
      go (suc q) = refl

  keyed_by : key.refusal c.keyed ≡ keys.number_of r
  keyed_by = sym refusal_of_lem ∙ sym k.number

  buffer_room : length buffer ≡ c.keyed.room
  buffer_room = ap length k.written ∙ outcome_room c.keyed

  pub key_inside : keys.len_of r ≤ length buffer
  key_inside = omega (arith, k.counted, len_inside c.keyed, buffer_room)

-- a key that is refused
pub added_keyless : (c : Lent) (x : Refusal) (buffer : List ℕ) → formed c.store ≡ true → keys.Answered c.keyed (Err x) buffer → Added c (Err x) c.store buffer
unfolding key_refusal key.outcome key.outcome_of
added_keyless c x buffer f k = go (number_of x) refl
  where
    go : (q : ℕ) → number_of x ≡ q → Added c (Err x) c.store buffer
    go zero z = absurd (omega (arith, some_number x, z))
    go (suc q) z =
        let by : key.refusal c.keyed ≡ suc q = keyed_by c k ∙ z in
        added_refused c x (formed_add c f ∙ ap (λ (i : ℕ). key_refusal i c) by ∙ sym z) k.place
        (k.written ∙ ap (λ (i : ℕ). (key.outcome_of i c.keyed).buffer) by)

-- a key that is given, and its entry
pub added_keyed : (c : Lent) (x : Keyed) (buffer : List ℕ) {r : KeyAnswer} {after left : List ℕ} → formed c.store ≡ true
    → keys.Answered c.keyed (Ok x) buffer
    → Entered (record { number = c.number; key = take x.len buffer }) x c.store buffer r after left → Added c r after left
unfolding key_refusal added_by
added_keyed c x buffer {r} {after} {left} f k v = go (refusal_of e (entries c.store)) refl
  where
    e : Entry
    e = record { number = c.number; key = take x.len buffer }

    bytes_of : take x.len buffer ≡ key.key_bytes c.keyed
    bytes_of = ap₂ (λ (n : ℕ) (l : List ℕ). take n l) k.counted k.written ∙ key_bytes_lem c.keyed (sym k.number)

    same_entry : e ≡ titled c
    same_entry = ap (λ (l : List ℕ). record { number = c.number; key = l }) bytes_of

    refusal : (q : ℕ) → refusal_of e (entries c.store) ≡ q → add_refusal c ≡ q
    refusal q p = formed_add c f ∙ (ap (λ (i : ℕ). key_refusal i c) (keyed_by c k) ∙ (ap (λ (x : Entry). refusal_of x (entries c.store)) (sym same_entry) ∙ p))

    go : (q : ℕ) → refusal_of e (entries c.store) ≡ q → Added c r after left
    go zero p =
        let a = v.accepted p in
        let o = sym (added_by_lem c 0 (refusal 0 p)) in
        record {
          number = ap keys.number_of a.0 ∙ ap (λ x. x.refused) o;
          case = λ z. a.0 ∙ ap₂ (λ (m n : ℕ). Ok (record { len = m; charged = n })) (sym (ap keys.len_of a.0)) (sym (ap keys.charged_of a.0));
          place = ap keys.place_of a.0;
          counted = ap keys.len_of a.0 ∙ (k.counted ∙ ap (λ x. x.len) o);
          charged = ap keys.charged_of a.0 ∙ (k.charged ∙ ap (λ x. x.charged) o);
          stored = a.1.0 ∙ (ap (λ (x : Entry). bytes (entered x (entries c.store))) same_entry ∙ ap (λ x. x.store) o);
          written = a.1.1 ∙ (k.written ∙ ap (λ x. x.buffer) o);
        }
    go (suc q) p =
        let a = v.refused q p in
        let d = added_refused c a.0.0 (refusal (suc q) p ∙ sym a.0.2) a.0.3 (a.1.1 ∙ ap (λ (n : ℕ). padded n []) (buffer_room c k)) in
        subst (λ (y : KeyAnswer). Added c y after left) (sym a.0.1) (subst (λ (l : List ℕ). Added c (Err a.0.0) l left) (sym a.1.0) d)
