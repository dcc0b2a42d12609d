-- Entries at their places, looked at one after the other from the front or from the back. Assumes nothing.
use Prim.Native.Nat.{ℕ, zero, suc, ◌+◌, ◌*◌, ◌≤◌, ◌<◌}
use mathlib.Core.Path.{◌≡◌, refl, sym, ap, ◌∙◌}
use mathlib.Core.Bool.{true, false}
use mathlib.Core.List.{List, [], ◌∷◌}
use native.Mathlib.Nat.{not-suc-le-zero, add-zero}
use native.Mathlib.Numerals.{add-one}
use native.Mathlib.Omega.{arith}
use borrow.Author.Tests.{lt-ltb, le-ltb}
use lib.Dec.{eqb}
use lib.ListN.{length, get_or, take, drop, drop_of_length-le}
use lib.Seq.{drop-drop, take-take}
use Rattle.catalogue_distinct.specs.Distinct.{same}
use Rattle.catalogue_form.specs.Form.{Entry, value, entry_of, entries_of}
use Rattle.catalogue_form.specs.Entries.{having}
use Rattle.catalogue_places.specs.Promises.{before, headed, first_number}

pub length_entries : (n : ℕ) (l : List ℕ) → length (entries_of n l) ≡ n
unfolding entries_of
length_entries zero l = refl
length_entries (suc n) l = ap suc (length_entries n (drop 260 l))

-- the entry at a place, and those behind it
pub entry_at : (i n : ℕ) (l : List ℕ) → i < n → drop i (entries_of n l) ≡ entry_of (drop (i * 260) l) ∷ drop (suc i) (entries_of n l)
unfolding entries_of
entry_at i zero l h = absurd (not-suc-le-zero h)
entry_at zero (suc n) l h = refl
entry_at (suc i) (suc n) l h =
    let size : suc i * 260 ≡ 260 + i * 260 = omega arith in
    rw (size, ← drop-drop (i * 260) 260 l) (entry_at i n (drop 260 l) (omega arith))

-- a place says the same as all from there on
pub entry_front : (l : List ℕ) → 260 ≤ length l → get_or l 4 0 < 256 → entry_of (take 260 l) ≡ entry_of l
entry_front [] h b = absurd (omega arith)
entry_front (x ∷ []) h b = absurd (omega arith)
entry_front (x ∷ y ∷ []) h b = absurd (omega arith)
entry_front (x ∷ y ∷ z ∷ []) h b = absurd (omega arith)
entry_front (x ∷ y ∷ z ∷ w ∷ []) h b = absurd (omega arith)
entry_front (x ∷ y ∷ z ∷ w ∷ n ∷ r) h b = rw (take-take n 255 r (omega arith))

-- so it has the same key
pub same_front : (key l : List ℕ) (w : ℕ) → w ≡ 260 → 260 ≤ length l → get_or l 4 0 < 256 → same key (entry_of l).key ≡ same key (entry_of (take w l)).key
same_front key l w s h b = sym (ap (λ (k : ℕ). same key (entry_of (take k l)).key) s ∙ ap (λ (e : Entry). same key e.key) (entry_front l h b))

-- ---- from the front: the place of a number

module _ (m n : ℕ) (l : List ℕ) where
  abbrev es : List Entry
  es = entries_of n l

  pub before_turn : (i : ℕ) → i < n → value (drop (i * 260) l) < m → before m es ≡ i + before m (drop i es) → before m es ≡ i + 1 + before m (drop (i + 1) es)
  before_turn i h v e =
      let f : i + suc (before m (drop (suc i) es)) ≡ i + 1 + before m (drop (suc i) es) = omega arith in
      e ∙ rw (entry_at i n l h, lt-ltb (value (drop (i * 260) l)) m v) (f ∙ ap (λ (k : ℕ). i + 1 + before m (drop k es)) (sym (add-one i)))

  pub before_here : (i : ℕ) → i < n → m ≤ value (drop (i * 260) l) → before m es ≡ i + before m (drop i es) → i ≡ before m es
  before_here i h v e = sym (e ∙ rw (entry_at i n l h, le-ltb (value (drop (i * 260) l)) m v) (add-zero i))

  pub before_end : (i : ℕ) → n ≤ i → before m es ≡ i + before m (drop i es) → i ≡ before m es
  before_end i h e = sym (e ∙ rw (drop_of_length-le es {i = i} (rw length_entries h)) (add-zero i))

  pub stands_here : (i : ℕ) → i < n → eqb (value (drop (i * 260) l)) m ≡ headed m (drop i es)
  stands_here i h = rw (entry_at i n l h)

  pub stands_not : (i : ℕ) → n ≤ i → false ≡ headed m (drop i es)
  stands_not i h = rw (drop_of_length-le es {i = i} (rw length_entries h))

-- ---- from the back: the entries that have a key

pub record Counted (k : List ℕ) (es : List Entry) (entries number : ℕ) : Type 0 where
  pub count : entries ≡ length (having k es)
  pub first : number ≡ first_number (having k es)

pub counted_none : (k : List ℕ) (n : ℕ) (l : List ℕ) → Counted k (drop n (entries_of n l)) 0 0
counted_none k n l = rw (drop_of_length-le (entries_of n l) {i = n} (rw length_entries (omega arith))) (record { count = refl; first = refl })

module _ (k : List ℕ) (i n : ℕ) (l : List ℕ) (h : i < n) {entries number : ℕ} (c : Counted k (drop (suc i) (entries_of n l)) entries number) where
  pub counted_one : same k (entry_of (drop (i * 260) l)).key ≡ true → Counted k (drop i (entries_of n l)) (entries + 1) (value (drop (i * 260) l))
  counted_one t = rw (entry_at i n l h) (record { count = rw t (add-one entries ∙ ap suc c.count); first = rw t })

  pub counted_not : same k (entry_of (drop (i * 260) l)).key ≡ false → Counted k (drop i (entries_of n l)) entries number
  counted_not t = rw (entry_at i n l h) (record { count = rw t c.count; first = rw t c.first })
