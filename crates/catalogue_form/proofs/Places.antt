-- Entries and their places: what is written is read again, and places that are of the form are those of what they say. Assumes nothing.
use Prim.Native.Nat.{ℕ, zero, suc, ◌+◌, ◌-◌, ◌*◌, ◌≤◌, ◌<◌}
use mathlib.Core.Path.{◌≡◌, refl, sym, ap, ap₂, subst, ◌∙◌}
use mathlib.Core.Bool.{Bool, true, false, ◌&&◌, and-eq-true_iff}
use mathlib.Core.List.{List, [], ◌∷◌, ◌++◌, append_assoc}
use native.Mathlib.Nat.{zero-mul}
use native.Mathlib.Omega.{arith}
use borrow.Author.Tests.{leb-true, le-leb, lt-leb}
use lib.Dec.{leb}
use lib.ListN.{length, get_or, take, drop, length-append, length-drop}
use lib.Seq.{take-append-le, take_at, drop_at, drop-drop, length-take-le, take-add, take-take, get_or-take}
use native.Mathlib.Numerals.{add-one}
use Rattle.questions.specs.Questions.{all, zero?}
use Rattle.questions.specs.Buffer.{padded}
use Rattle.questions.proofs.Buffers.{length_padded, take_padded}
use Rattle.catalogue_form.specs.Form.{Entry, fits, all_fit, rising, value, place, places, entry_of, entries_of}
use Rattle.catalogue_form.specs.Promises.{zero_behind, places_hold}
use Rattle.catalogue_form.proofs.FourBytes.{Bytes, bytes_drop, value_big_endian, big_endian_value}
use Rattle.catalogue_form.proofs.Zeros.{padded_take, padded_behind}

pub length_place : (e : Entry) → length (place e) ≡ 260
length_place e = rw length_padded

pub length_places : (es : List Entry) → length (places es) ≡ length es * 260
length_places [] = sym (zero-mul 260)
length_places (e ∷ es) = omega (arith, length-append (place e) (places es), length_place e, length_places es)

pub places_append : (es fs : List Entry) → places (es ++ fs) ≡ places es ++ places fs
places_append [] fs = refl
places_append (e ∷ es) fs = ap (λ (r : List ℕ). place e ++ r) (places_append es fs) ∙ sym (append_assoc (place e) (places es) (places fs))

-- ---- One place

module _ (e : Entry) (l : List ℕ) where
  pub value_place : value (place e ++ l) ≡ e.number
  value_place = value_big_endian e.number []

  pub drop_place : drop 260 (place e ++ l) ≡ l
  drop_place = drop_at (place e) l 260 (length_place e)

  module _ (h : length e.key ≤ 255) where
    pub entry_place : entry_of (place e ++ l) ≡ e
    entry_place = λ i. record { number = value_place i; key = key i }
      where
        key : take (length e.key) (padded 255 e.key ++ l) ≡ e.key
        key = take-append-le (length e.key) (padded 255 e.key) l (rw length_padded h) ∙ take_padded 255 e.key h

    pub behind_place : zero_behind (place e ++ l) ≡ true
    behind_place =
        rw (take_at (place e) l 260 (length_place e)) (rw (← drop-drop (length e.key) 5 (place e)) (padded_behind 255 e.key h))

-- a place that is zero behind its key is that of the entry that it says
pub place_entry : (l : List ℕ) → 260 ≤ length l → Bytes l → zero_behind l ≡ true → place (entry_of l) ≡ take 260 l
place_entry [] h b z = absurd (omega arith)
place_entry (a ∷ []) h b z = absurd (omega arith)
place_entry (a ∷ c ∷ []) h b z = absurd (omega arith)
place_entry (a ∷ c ∷ d ∷ []) h b z = absurd (omega arith)
place_entry (a ∷ c ∷ d ∷ e ∷ []) h b z = absurd (omega arith)
place_entry (a ∷ c ∷ d ∷ e ∷ n ∷ r) h b z =
    let long : length (take n r) ≡ n = length-take-le n r (omega (arith, b 4)) in
    let zeros : all zero? (drop n (take 255 r)) ≡ true = rw (drop-drop n 5 (a ∷ c ∷ d ∷ e ∷ n ∷ take 255 r)) z in
    let key : padded 255 (take n r) ≡ take 255 r = padded_take 255 n r (omega arith) (omega (arith, b 4)) zeros in
    ap₂ (λ (x y : List ℕ). x ++ y) (big_endian_value a c d e (b 1) (b 2) (b 3)) (ap₂ (λ (x : ℕ) (y : List ℕ). x ∷ y) long key)

-- ---- Places one behind the other

pub entries_places : (es : List Entry) (l : List ℕ) → all_fit es ≡ true → entries_of (length es) (places es ++ l) ≡ es
unfolding entries_of
entries_places [] l f = refl
entries_places (e ∷ es) l f =
    let both = (and-eq-true_iff (fits e) (all_fit es)).0 f in
    let short : length e.key ≤ 255 = leb-true _ _ ((and-eq-true_iff (leb e.number 0xFFFFFFFF) _).0 both.0).1 in
    rw (append_assoc (place e) (places es) l, entry_place e (places es ++ l) short, drop_place e (places es ++ l), entries_places es l both.1)

hold_cons : (m k : ℕ) (l : List ℕ) → m ≤ value l → zero_behind l ≡ true → places_hold (suc (value l)) k (drop 260 l) ≡ true → places_hold m (suc k) l ≡ true
unfolding places_hold
hold_cons m k l h z p = (and-eq-true_iff (leb m (value l)) _).1 (le-leb m (value l) h, (and-eq-true_iff (zero_behind l) _).1 (z, p))

pub hold_places : (es : List Entry) (m : ℕ) (l : List ℕ) → rising m es ≡ true → all_fit es ≡ true → places_hold m (length es) (places es ++ l) ≡ true
unfolding places_hold
hold_places [] m l r f = refl
hold_places (e ∷ es) m l r f =
    let both = (and-eq-true_iff (fits e) (all_fit es)).0 f in
    let short : length e.key ≤ 255 = leb-true _ _ ((and-eq-true_iff (leb e.number 0xFFFFFFFF) _).0 both.0).1 in
    let up = (and-eq-true_iff (leb m e.number) (rising (suc e.number) es)).0 r in
    let low : m ≤ e.number = leb-true m e.number up.0 in
    let rest = places es ++ l in
    let number = value_place e rest in
    let held : places_hold (suc (value (place e ++ rest))) (length es) (drop 260 (place e ++ rest)) ≡ true =
    subst (λ (v : ℕ). places_hold (suc v) (length es) (drop 260 (place e ++ rest)) ≡ true) (sym number)
    (subst (λ (t : List ℕ). places_hold (suc e.number) (length es) t ≡ true) (sym (drop_place e rest)) (hold_places es (suc e.number) l up.1 both.1)) in
    subst (λ (t : List ℕ). places_hold m (suc (length es)) t ≡ true) (sym (append_assoc (place e) (places es) l))
    (hold_cons m (length es) (place e ++ rest) (subst (λ (v : ℕ). m ≤ v) (sym number) low) (behind_place e rest short) held)

-- what places of the form say
pub record Said (m k : ℕ) (l : List ℕ) : Type 0 where
  pub count : length (entries_of k l) ≡ k
  pub up : rising m (entries_of k l) ≡ true
  pub fit : all_fit (entries_of k l) ≡ true
  pub same : places (entries_of k l) ≡ take (k * 260) l

pub said : (k m : ℕ) (l : List ℕ) → k * 260 ≤ length l → Bytes l → places_hold m k l ≡ true → Said m k l
unfolding entries_of places_hold
said zero m l h b p = record { count = refl; up = refl; fit = refl; same = refl }
said (suc k) m l h b p =
    let first = (and-eq-true_iff (leb m (value l)) _).0 p in
    let rest = (and-eq-true_iff (zero_behind l) (places_hold (suc (value l)) k (drop 260 l))).0 first.1 in
    let s = said k (suc (value l)) (drop 260 l) (omega (arith, length-drop 260 l)) (bytes_drop 260 l b) rest.1 in
    let long : 260 ≤ length l = omega arith in
    let small : value l ≤ 0xFFFFFFFF = omega (arith, b 0, b 1, b 2, b 3) in
    let short : length (take (get_or l 4 0) (drop 5 l)) ≤ 255 = omega (arith, b 4, length-take-le (get_or l 4 0) (drop 5 l) (omega (arith, b 4, length-drop 5 l))) in
    let size : suc k * 260 ≡ 260 + k * 260 = omega arith in
    record {
      count = ap suc s.count;
      up = rw (first.0, s.up);
      fit = rw (le-leb _ _ small, le-leb _ _ short, s.fit);
      same = ap₂ (λ (x y : List ℕ). x ++ y) (place_entry l long b rest.0) s.same ∙ (sym (take-add 260 (k * 260) l) ∙ ap (λ (n : ℕ). take n l) (sym size));
    }

-- ---- The loop over the places

part_behind : (l : List ℕ) → zero_behind (take 260 l) ≡ zero_behind l
part_behind l = ap₂ (λ (n : ℕ) (r : List ℕ). all zero? (drop (5 + n) r)) (get_or-take 260 l 4 0 (omega arith)) (take-take 260 260 l (omega arith))

module _ (p : List ℕ) (n i m : ℕ) (e : places_hold 0 n p ≡ places_hold m (n - i) (drop (i * 260) p)) where
  abbrev l : List ℕ
  l = drop (i * 260) p

  pub hold_end : n ≤ i → true ≡ places_hold 0 n p
  unfolding places_hold
  hold_end h =
      let none : n - i ≡ 0 = omega arith in
      sym (e ∙ ap (λ (k : ℕ). places_hold m k l) none)

  module _ (h : i < n) where
    here : places_hold 0 n p ≡ leb m (value l) && (zero_behind l && places_hold (suc (value l)) (n - (i + 1)) (drop 260 l))
    unfolding places_hold
    here =
        let one : n - i ≡ suc (n - (i + 1)) = omega arith in
        e ∙ ap (λ (k : ℕ). places_hold m k l) one

    pub hold_low : value l < m → false ≡ places_hold 0 n p
    hold_low v = sym (here ∙ rw (lt-leb m (value l) v))

    module _ (low : m ≤ value l) where
      pub hold_dirt : zero_behind (take 260 l) ≡ false → false ≡ places_hold 0 n p
      hold_dirt z = sym (here ∙ ap₂ (λ (a b : Bool). a && (b && places_hold (suc (value l)) (n - (i + 1)) (drop 260 l))) (le-leb m (value l) low) (sym (part_behind l) ∙ z))

      pub hold_next : zero_behind (take 260 l) ≡ true → places_hold 0 n p ≡ places_hold (value l + 1) (n - (i + 1)) (drop ((i + 1) * 260) p)
      hold_next z =
          let s : i * 260 + 260 ≡ (i + 1) * 260 = omega arith in
          here
          ∙ (ap₂ (λ (a b : Bool). a && (b && places_hold (suc (value l)) (n - (i + 1)) (drop 260 l))) (le-leb m (value l) low) (sym (part_behind l) ∙ z)
          ∙ ap₂ (λ (k : ℕ) (r : List ℕ). places_hold k (n - (i + 1)) r) (sym (add-one (value l))) (drop-drop 260 (i * 260) p ∙ ap (λ (k : ℕ). drop k p) s))
