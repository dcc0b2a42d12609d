-- A store that holds a catalogue, in the parts in which it is lent and given back. Assumes nothing.
use Prim.Native.Nat.{ℕ, suc, ◌+◌, ◌-◌, ◌*◌, ◌≤◌, ◌<◌}
use mathlib.Core.Path.{◌≡◌, refl, sym, ap, ap₂, subst, ◌∙◌}
use mathlib.Core.Bool.{Bool, true, false, cond}
use mathlib.Core.List.{List, ◌∷◌, ◌++◌, append-nil}
use native.Mathlib.Omega.{arith}
use lib.Dec.{eqb}
use lib.ListN.{length, take, drop, length-append, length-drop, drop_of_length-le}
use lib.Seq.{sets, sets-eq, length-sets, take_at, drop_at, length-take-le}
use Rattle.questions.specs.Buffer.{padded}
use Rattle.catalogue_distinct.specs.Distinct.{among, distinct}
use Rattle.catalogue_form.specs.Form.{Entry, keys, big_endian, value, place, places, bytes, entry_of, entries_of, entries}
use Rattle.catalogue_form.specs.Entries.{having}
use Rattle.catalogue_form.specs.Promises.{Held}
use Rattle.lent.proofs.Parts.{lent_rest}
use Rattle.catalogue_form.proofs.Forms.{parts, formed_held, length_bytes, value_bytes, held_bytes}
use Rattle.catalogue_places.specs.Promises.{opened, closed}
use Rattle.catalogue_places.proofs.Looking.{entry_at}
use Rattle.catalogue_changes.specs.Promises.{Holds, put_at, taken_at}
use Rattle.catalogue_changes.proofs.Keys.{distinct_low, length_keys, distinct_put_at, distinct_taken_at, taken_low}
use Rattle.catalogue_changes.proofs.Bodies.{opened_body, closed_body}

-- the two counts, written one after the other
pub both_counts : (l : List ℕ) (a b : ℕ) → length l ≡ 8 → sets (sets l 0 (big_endian a)) 4 (big_endian b) ≡ big_endian a ++ big_endian b
both_counts l a b h =
    let first = sets l 0 (big_endian a) in
    let front : first ≡ big_endian a ++ drop 4 l = sets-eq (big_endian a) l 0 (omega arith) in
    sets-eq (big_endian b) first 4 (omega (arith, length-sets l 0 (big_endian a)))
    ∙ ap₂ (λ (x y : List ℕ). x ++ big_endian b ++ y) (ap (take 4) front ∙ take_at (big_endian a) (drop 4 l) 4 refl)
    (drop_of_length-le first {i = 8} (omega (arith, length-sets l 0 (big_endian a))))

-- ---- the store, when what is behind its counts is given back

module _ (s p : List ℕ) (h : 8 ≤ length s) where
  abbrev given : List ℕ
  given = take 8 s ++ (p ++ drop (length s - 8) (drop 8 s))

  pub given_rest : drop 8 given ≡ p
  given_rest =
      drop_at (take 8 s) _ 8 (length-take-le 8 s h)
      ∙ (ap (λ (r : List ℕ). p ++ r) (drop_of_length-le (drop 8 s) {i = length s - 8} (omega (arith, length-drop 8 s))) ∙ append-nil p)

  pub given_long : 8 ≤ length given
  given_long = omega (arith, length-append (take 8 s) (p ++ drop (length s - 8) (drop 8 s)), length-take-le 8 s h)

  pub given_front : length (take 8 given) ≡ 8
  given_front = length-take-le 8 given given_long

-- ---- a store with n entries

module _ (store : List ℕ) (n : ℕ) (h : Holds store n) where
  held : Held (entries store) store
  held = formed_held store h.form

  pub long : length store ≡ 266248
  long = ap length held.stored ∙ length_bytes (entries store)

  pub few : n ≤ 1024
  few = omega (arith, h.count, (parts (entries store) held.catalogue).few)

  -- the part behind the counts, as it is lent
  abbrev pub rest : List ℕ
  rest = take (length store - 8) (drop 8 store)

  pub rest_long : length rest ≡ 266240
  rest_long = ap length (lent_rest store 8) ∙ omega (arith, length-drop 8 store, long)

  body : rest ≡ padded 266240 (places (entries store))
  unfolding bytes
  body = lent_rest store 8 ∙ ap (drop 8) held.stored

  pub entries_lent : entries_of n rest ≡ entries store
  unfolding entries
  entries_lent =
      ap₂ entries_of (h.count ∙ sym (ap value held.stored ∙ value_bytes (entries store))) (lent_rest store 8)

  pub counted : value (drop 4 store) ≡ distinct (keys (entries store))
  counted = ap (λ (l : List ℕ). value (drop 4 l)) held.stored ∙ held_bytes (entries store)

  pub count_low : value (drop 4 store) ≤ 1024
  count_low = omega (arith, counted, distinct_low (keys (entries store)), length_keys (entries store), h.count, few)

  pub one_low : (k : List ℕ) → cond (among k (keys (entries_of n rest))) 0 1 ≤ 1
  one_low k = go (among k (keys (entries_of n rest)))
    where
      go : (t : Bool) → cond t 0 1 ≤ 1
      go true = omega arith
      go false = omega arith

  -- an entry is put in
  module _ (at : ℕ) (e : Entry) (room : n < 1024) (low : at ≤ n) where
    put_count : n + 1 ≡ length (put_at at e (entries store))
    put_count =
        omega (
          arith,
          h.count,
          length-append (take at (entries store)) (e ∷ drop at (entries store)),
          length-take-le at (entries store) (omega (arith, h.count)),
          length-drop at (entries store),
        )

    pub inserted : {d : ℕ} {front after : List ℕ} → front ≡ big_endian (n + 1) ++ big_endian d → d ≡ value (drop 4 store) + cond (among e.key (keys (entries_of n rest))) 0 1
        → after ≡ opened rest (at * 260) (n - at + 1) (place e) → front ++ after ≡ bytes (put_at at e (entries store))
    unfolding bytes
    inserted {d} f c p = ap₂ (λ (x y : List ℕ). x ++ y) (f ∙ ap₂ (λ (x y : ℕ). big_endian x ++ big_endian y) put_count count) (p ∙ after_is)
      where
        count : d ≡ distinct (keys (put_at at e (entries store)))
        count =
            c ∙ (ap₂ (λ (x : ℕ) (l : List Entry). x + cond (among e.key (keys l)) 0 1) counted entries_lent ∙ sym (distinct_put_at (entries store) at e))

        after_is : opened rest (at * 260) (n - at + 1) (place e) ≡ padded 266240 (places (put_at at e (entries store)))
        after_is =
            ap₂ (λ (l : List ℕ) (m : ℕ). opened l (at * 260) (m - at + 1) (place e)) body h.count
            ∙ opened_body (entries store) at e (omega (arith, h.count)) (omega (arith, h.count))

  -- an entry is taken away
  module _ (at : ℕ) (low : at < n) where
    abbrev entry : Entry
    entry = entry_of (drop (at * 260) rest)

    stands : drop at (entries store) ≡ entry ∷ drop (suc at) (entries store)
    stands = subst (λ (l : List Entry). drop at l ≡ entry ∷ drop (suc at) l) entries_lent (entry_at at n rest low)

    alone : ◌≡◌ {A = ℕ} (cond (eqb (length (having entry.key (entries_of n rest))) 1) 1 0) (cond (eqb (length (having entry.key (entries store))) 1) 1 0)
    alone = ap (λ (l : List Entry). cond (eqb (length (having entry.key l)) 1) 1 0) entries_lent

    pub alone_low : cond (eqb (length (having entry.key (entries_of n rest))) 1) 1 0 ≤ value (drop 4 store)
    alone_low = omega (arith, alone, counted, taken_low (entries store) at entry stands)

    taken_count : n - 1 ≡ length (taken_at at (entries store))
    taken_count =
        omega (
          arith,
          h.count,
          length-append (take at (entries store)) (drop (at + 1) (entries store)),
          length-take-le at (entries store) (omega (arith, h.count)),
          length-drop (at + 1) (entries store),
        )

    pub deleted : {d : ℕ} {front after : List ℕ} → front ≡ big_endian (n - 1) ++ big_endian d
        → d ≡ value (drop 4 store) - cond (eqb (length (having entry.key (entries_of n rest))) 1) 1 0 → after ≡ closed rest n at
        → front ++ after ≡ bytes (taken_at at (entries store))
    unfolding bytes
    deleted {d} f c p = ap₂ (λ (x y : List ℕ). x ++ y) (f ∙ ap₂ (λ (x y : ℕ). big_endian x ++ big_endian y) taken_count count) (p ∙ after_is)
      where
        count : d ≡ distinct (keys (taken_at at (entries store)))
        count = c ∙ (ap₂ (λ (x y : ℕ). x - y) counted alone ∙ sym (distinct_taken_at (entries store) at entry stands))

        after_is : closed rest n at ≡ padded 266240 (places (taken_at at (entries store)))
        after_is =
            ap₂ (λ (l : List ℕ) (m : ℕ). closed l m at) body h.count
            ∙ closed_body (entries store) at (omega (arith, h.count, few)) (omega (arith, h.count))
