-- The laws of specs/Laws.antt. Assumes nothing.
use Prim.Native.Nat.{ℕ, zero, suc, min, ◌≤◌}
use mathlib.Core.Path.{◌≡◌, refl, sym, ap, subst, ◌∙◌}
use mathlib.Core.Bool.{Bool, true, false, cond}
use mathlib.Core.List.{List, [], ◌∷◌}
use native.Mathlib.Omega.{arith}
use lib.Dec.{ltb}
use lib.ListN.{length, drop}
use Rattle.questions.specs.Buffer.{padded}
use Rattle.questions.proofs.Buffers.{padded_none}
use Rattle.base.specs.Lists.{All}
use Rattle.catalogue_distinct.specs.Distinct.{same, distinct}
use Rattle.catalogue_distinct.proofs.Same.{same_refl}
use Rattle.catalogue_form.specs.Form.{Entry, keys, is_catalogue, value, bytes, entries, formed}
use Rattle.catalogue_form.specs.Entries.{entered, without, having, least_from, smallest}
use Rattle.catalogue_form.specs.Promises.{Held}
use Rattle.catalogue_form.proofs.Forms.{T_true, formed_held, formed_bytes, entries_bytes, held_bytes}
use Rattle.key.specs.Key as key
use Rattle.key.proofs.OneKey.{readings_one_key}
use Rattle.catalogue.specs.Catalogue.{Lent, titled, key_refusal, add_refusal, added_by, added, remove_refusal, removed_by, removed, found}
use Rattle.catalogue.specs.Laws.{Small, empty, FormMeans, Call, add, remove, find, after, after_all}
use Rattle.catalogue.specs.Laws.{SmallCall, FormKept, CatalogueQuestions, RefusalsKeep, AddFind, AddRemove, Least, FindCounts, FoundTogether, EitherWidth}
use Rattle.catalogue.proofs.Order.{entered_numbered, without_entered, having_entered}
use Rattle.catalogue.proofs.Calls.{Accepted, accepted, added_by_lem, not_formed_add, formed_add, entered_catalogue, without_catalogue, removed_by_lem, removes, removes_not, finds, finds_not}

-- ---- The form

none : bytes [] ≡ empty
unfolding bytes
none = ap (λ (l : List ℕ). 0 ∷ 0 ∷ 0 ∷ 0 ∷ 0 ∷ 0 ∷ 0 ∷ 0 ∷ l) (padded_none 266240)

pub form_means : FormMeans
form_means = record {
  form = formed_bytes;
  one = entries_bytes;
  only = λ store f. ((formed_held store f).catalogue, (formed_held store f).stored);
  none = none;
}

-- ---- Every call keeps the form

added_formed : (c : Lent) → Small c.number → formed c.store ≡ true → formed (added c).store ≡ true
unfolding added_by
added_formed c n f = go (add_refusal c) refl
  where
    go : (q : ℕ) → add_refusal c ≡ q → formed (added c).store ≡ true
    go zero p =
        let a = accepted c (ap (λ o. o.refused) (added_by_lem c 0 p)) in
        rw a.stored (formed_bytes (entered (titled c) (entries c.store))
        (entered_catalogue (titled c) (entries c.store) (formed_held c.store a.form).catalogue n a.entry))
    go (suc q) p = rw (added_by_lem c (suc q) p) f

removed_formed : (store : List ℕ) (n : ℕ) → formed store ≡ true → formed (removed store n).store ≡ true
unfolding removed_by
removed_formed store n f = go (remove_refusal store n) refl
  where
    go : (q : ℕ) → remove_refusal store n ≡ q → formed (removed store n).store ≡ true
    go zero p = rw (removed_by_lem store n 0 p) (formed_bytes (without n (entries store)) (without_catalogue n (entries store) (formed_held store f).catalogue))
    go (suc q) p = rw (removed_by_lem store n (suc q) p) f

after_formed : (c : Call) (store : List ℕ) → SmallCall c → formed store ≡ true → formed (after c store) ≡ true
after_formed (add k n) store s f = added_formed (record { keyed = k; number = n; store = store }) s f
after_formed (remove n) store s f = removed_formed store n f
after_formed (find k) store s f = f

all_formed : (cs : List Call) (store : List ℕ) → All SmallCall cs → formed store ≡ true → formed (after_all cs store) ≡ true
all_formed [] store s f = f
all_formed (c ∷ cs) store s f = all_formed cs (after c store) s.1 (after_formed c store s.0 f)

pub form_kept : FormKept
form_kept cs s = record { form = form; counted = counted }
  where
    store : List ℕ
    store = after_all cs empty

    form : formed store ≡ true
    form = all_formed cs empty s (subst (λ (l : List ℕ). formed l ≡ true) none (formed_bytes [] refl))

    counted : value (drop 4 store) ≡ distinct (keys (entries store))
    counted = ap (λ (l : List ℕ). value (drop 4 l)) (formed_held store form).stored ∙ held_bytes (entries store)

-- ---- The questions

number_of : (c : Lent) → (added c).refused ≡ add_refusal c
unfolding added_by
number_of c = go (add_refusal c) refl
  where
    go : (q : ℕ) → add_refusal c ≡ q → (added c).refused ≡ q
    go zero e = ap (λ o. o.refused) (added_by_lem c zero e)
    go (suc q) e = ap (λ o. o.refused) (added_by_lem c (suc q) e)

remove_number_of : (store : List ℕ) (n : ℕ) → (removed store n).refused ≡ remove_refusal store n
unfolding removed_by
remove_number_of store n = go (remove_refusal store n) refl
  where
    go : (q : ℕ) → remove_refusal store n ≡ q → (removed store n).refused ≡ q
    go zero e = ap (λ o. o.refused) (removed_by_lem store n zero e)
    go (suc q) e = ap (λ o. o.refused) (removed_by_lem store n (suc q) e)

pub catalogue_questions : CatalogueQuestions
unfolding key_refusal
catalogue_questions = record {
  add_form = λ c f. number_of c ∙ not_formed_add c f;
  remove_form = λ store n f. remove_number_of store n ∙ removes_not store n f;
  find_form = λ store k f. ap (λ o. o.refused) (finds_not store k f);
  add_key = λ c q f k. number_of c ∙ (formed_add c f ∙ ap (λ (i : ℕ). key_refusal i c) k);
  add_entry = λ c f k. number_of c ∙ (formed_add c f ∙ ap (λ (i : ℕ). key_refusal i c) k);
  remove_number = λ store n f. remove_number_of store n ∙ removes store n f;
}

pub refusals_keep : RefusalsKeep
unfolding added_by removed_by
refusals_keep = record { add = add; remove = remove }
  where
    add : (c : Lent) (q : ℕ) → (added c).refused ≡ suc q → ((added c).store ≡ c.store) × ((added c).buffer ≡ padded c.keyed.room [])
    add c q e = go (add_refusal c) refl
      where
        go : (m : ℕ) → add_refusal c ≡ m → ((added c).store ≡ c.store) × ((added c).buffer ≡ padded c.keyed.room [])
        go zero p = absurd (omega (arith, e, ap (λ o. o.refused) (added_by_lem c zero p)))
        go (suc m) p = (ap (λ o. o.store) (added_by_lem c (suc m) p), ap (λ o. o.buffer) (added_by_lem c (suc m) p))

    remove : (store : List ℕ) (n q : ℕ) → (removed store n).refused ≡ suc q → (removed store n).store ≡ store
    remove store n q e = go (remove_refusal store n) refl
      where
        go : (m : ℕ) → remove_refusal store n ≡ m → (removed store n).store ≡ store
        go zero p = absurd (omega (arith, e, ap (λ o. o.refused) (removed_by_lem store n zero p)))
        go (suc m) p = ap (λ o. o.store) (removed_by_lem store n (suc m) p)

-- ---- The smallest number

least_below : (n : ℕ) (es : List Entry) → (least_from n es ≤ n) × All (λ e. least_from n es ≤ e.number) es
least_below n [] = (omega arith, tt)
least_below n (e ∷ es) =
    let b = least_below (min n e.number) es in
    let l : least_from (min n e.number) es ≤ n = omega (arith, b.0) in
    let m : least_from (min n e.number) es ≤ e.number = omega (arith, b.0) in
    (l, (m, b.1))

least_reached : (k n : ℕ) (es : List Entry) → k ≤ n → All (λ e. k ≤ e.number) es → k ≤ least_from n es
least_reached k n [] h a = h
least_reached k n (e ∷ es) h a =
    let l : k ≤ min n e.number = omega (arith, a.0) in
    least_reached k (min n e.number) es l a.1

smallest_least : (es : List Entry) → Least es (smallest es)
smallest_least [] = record { none = λ e. refl; low = tt; reached = λ m e a. absurd (omega arith) }
smallest_least (e ∷ es) =
    let b = least_below e.number es in
    record {
      none = λ q. absurd (omega arith);
      low = (b.0, b.1);
      reached = λ m q a. absurd (omega (arith, least_reached (suc (least_from e.number es)) e.number es a.0 a.1));
    }

pub find_counts : FindCounts
find_counts store k f =
    let e = finds store k f in
    record {
      refused = ap (λ o. o.refused) e;
      counted = ap (λ o. o.entries) e;
      least = subst (Least (having k (entries store))) (sym (ap (λ o. o.number) e)) (smallest_least (having k (entries store)));
    }

having_all : (P : Entry → Type 0) (e : Entry) (es : List Entry) → same e.key e.key ≡ true → All P (having e.key (entered e es)) → P e × All P (having e.key es)
having_all P e [] s h = ((rw s at h).0, tt)
having_all P e (f ∷ fs) s h = go (having_all P e fs s) (ltb f.number e.number) (same e.key f.key) refl h
  where
    go : (All P (having e.key (entered e fs)) → P e × All P (having e.key fs)) → (t q : Bool) → same e.key f.key ≡ q
        → All P (having e.key (cond t (f ∷ entered e fs) (e ∷ f ∷ fs))) → P e × All P (cond q (f ∷ having e.key fs) (having e.key fs))
    go ih true true p a =
        let b = rw p at a in
        let r = ih b.1 in
        (r.0, (b.0, r.1))
    go ih true false p a = ih (rw p at a)
    go ih false q p a =
        let b = rw s at a in
        (b.0, rw (← p) b.1)

-- ---- An add, and what comes after it

module _ (c : Lent) (n : Small c.number) (z : (added c).refused ≡ 0) where
  a : Accepted c
  a = accepted c z

  abbrev es : List Entry
  es = entries c.store

  abbrev more : List Entry
  more = entered (titled c) es

  held : Held es c.store
  held = formed_held c.store a.form

  good : is_catalogue more ≡ true
  good = entered_catalogue (titled c) es held.catalogue n a.entry

  formed_after : formed (added c).store ≡ true
  formed_after = rw a.stored (formed_bytes more good)

  entries_after : entries (added c).store ≡ more
  entries_after = ap entries a.stored ∙ entries_bytes more good

  abbrev k : List ℕ
  k = key.key_bytes c.keyed

  count_after : length (having k more) ≡ suc (length (having k es))
  count_after = having_entered (titled c) es (T_true (same k k) (same_refl k))

  -- what holds of every entry that has the key holds of the title's, and of those that had it before
  among_after : (P : Entry → Type 0) → All P (having k more) → P (titled c) × All P (having k es)
  among_after P h = having_all P (titled c) es (T_true (same k k) (same_refl k)) h

  found_after : (l : List ℕ) → found (added c).store l ≡ record { refused = 0; entries = length (having l more); number = smallest (having l more) }
  found_after l =
      finds (added c).store l formed_after
      ∙ ap (λ (fs : List Entry). record { refused = 0; entries = length (having l fs); number = smallest (having l fs) }) entries_after

pub add_find : AddFind
add_find c n z = record {
  refused = ap (λ o. o.refused) f;
  one_more = ap (λ o. o.entries) f ∙ (count_after c n z ∙ ap (λ o. suc o.entries) (sym g));
  least = subst (λ (m : ℕ). m ≤ c.number) (sym (ap (λ o. o.number) f)) least;
}
  where
    f : found (added c).store (key.key_bytes c.keyed)
        ≡ record { refused = 0; entries = length (having (key.key_bytes c.keyed) (more c n z)); number = smallest (having (key.key_bytes c.keyed) (more c n z)) }
    f = found_after c n z (key.key_bytes c.keyed)

    g : found c.store (key.key_bytes c.keyed)
        ≡ record { refused = 0; entries = length (having (key.key_bytes c.keyed) (es c n z)); number = smallest (having (key.key_bytes c.keyed) (es c n z)) }
    g = finds c.store (key.key_bytes c.keyed) (a c n z).form

    least : smallest (having (key.key_bytes c.keyed) (more c n z)) ≤ c.number
    least =
        (among_after c n z (λ e. smallest (having (key.key_bytes c.keyed) (more c n z)) ≤ e.number) (smallest_least (having (key.key_bytes c.keyed) (more c n z))).low).0

pub add_remove : AddRemove
unfolding removed_by
add_remove c n z = record { refused = ap (λ o. o.refused) e; again = ap (λ o. o.store) e ∙ again }
  where
    accepts : remove_refusal (added c).store c.number ≡ 0
    accepts = removes (added c).store c.number (formed_after c n z) ∙ rw (entries_after c n z, entered_numbered (titled c) (es c n z))

    e : removed (added c).store c.number ≡ removed_by 0 (added c).store c.number
    e = removed_by_lem (added c).store c.number 0 accepts

    again : bytes (without c.number (entries (added c).store)) ≡ c.store
    again = rw (entries_after c n z, without_entered (titled c) (es c n z) (a c n z).entry.absent) (sym (held c n z).stored)

-- ---- Two titles with one key

pub found_together : FoundTogether
found_together c d n m z e y q = record {
  refused = ap (λ o. o.refused) f;
  both = subst (λ (i : ℕ). 2 ≤ i) (sym (ap (λ o. o.entries) f)) both;
  first = subst (λ (i : ℕ). i ≤ c.number) (sym (ap (λ o. o.number) f)) first;
  second = subst (λ (i : ℕ). i ≤ d.number) (sym (ap (λ o. o.number) f)) hits.0;
}
  where
    f : found (added d).store (key.key_bytes c.keyed)
        ≡ record { refused = 0; entries = length (having (key.key_bytes d.keyed) (more d m y)); number = smallest (having (key.key_bytes d.keyed) (more d m y)) }
    f = ap (found (added d).store) q ∙ found_after d m y (key.key_bytes d.keyed)

    then : entries d.store ≡ more c n z
    then = ap entries e ∙ entries_after c n z

    hits : (smallest (having (key.key_bytes d.keyed) (more d m y)) ≤ d.number) × All (λ e. smallest (having (key.key_bytes d.keyed) (more d m y)) ≤ e.number)
        (having (key.key_bytes d.keyed) (es d m y))
    hits = among_after d m y (λ e. smallest (having (key.key_bytes d.keyed) (more d m y)) ≤ e.number) (smallest_least (having (key.key_bytes d.keyed) (more d m y))).low

    again : All (λ e. smallest (having (key.key_bytes d.keyed) (more d m y)) ≤ e.number) (having (k c n z) (more c n z))
    again = subst (λ (fs : List Entry). All (λ e. smallest (having (key.key_bytes d.keyed) (more d m y)) ≤ e.number) (having (k c n z) fs)) then
        (subst (λ (i : List ℕ). All (λ e. smallest (having (key.key_bytes d.keyed) (more d m y)) ≤ e.number) (having i (es d m y))) (sym q) hits.1)

    first : smallest (having (key.key_bytes d.keyed) (more d m y)) ≤ c.number
    first = (among_after c n z (λ e. smallest (having (key.key_bytes d.keyed) (more d m y)) ≤ e.number) again).0

    count : length (having (key.key_bytes d.keyed) (es d m y)) ≡ suc (length (having (k c n z) (es c n z)))
    count = ap (λ (fs : List Entry). length (having (key.key_bytes d.keyed) fs)) then ∙ (ap (λ (i : List ℕ). length (having i (more c n z))) (sym q) ∙ count_after c n z)

    both : 2 ≤ length (having (key.key_bytes d.keyed) (more d m y))
    both = omega (arith, count_after d m y, count)

pub either_width : EitherWidth
either_width c d n m z e y w = found_together c d n m z e y (readings_one_key c.keyed d.keyed w)
