-- The form of a store, and what is asked of it one after the other. Assumes nothing.
use Prim.Native.Nat.{ℕ, suc, ◌+◌, ◌-◌, ◌*◌, ◌≤◌, ◌<◌}
use mathlib.Core.Path.{◌≡◌, refl, sym, ap, ap₂, subst, ◌∙◌}
use mathlib.Core.Bool.{Bool, true, false, ◌&&◌, and-eq-true_iff}
use mathlib.Core.List.{List, [], ◌∷◌, ◌++◌}
use native.Mathlib.Omega.{arith}
use borrow.Author.Tests.{leb-true, le-leb, eqb-true, eq-eqb}
use lib.Dec.{T, leb, eqb}
use lib.ListN.{length, take, drop, replicate, length-drop, take-append-drop}
use lib.Seq.{drop_at, drop-drop, take_all}
use Rattle.questions.specs.Questions.{all, zero?}
use Rattle.questions.specs.Buffer.{padded}
use Rattle.questions.proofs.Buffers.{length_padded}
use Rattle.catalogue_distinct.specs.Distinct.{same, distinct, records}
use Rattle.catalogue_distinct.proofs.Same.{same_eq, same_refl}
use Rattle.catalogue_form.specs.Form.{Entry, keys, all_fit, rising, is_catalogue, big_endian, value, places, bytes, entries_of, entries, formed}
use Rattle.catalogue_form.specs.Promises.{places_hold, Held}
use Rattle.catalogue_form.proofs.FourBytes.{Bytes, bytes_drop, value_big_endian, big_endian_value}
use Rattle.catalogue_form.proofs.Zeros.{padded_zeros, padded_take, zeros_zero}
use Rattle.catalogue_form.proofs.Places.{length_places, entries_places, hold_places, said, Said}
use Rattle.catalogue_form.proofs.Records.{distinct_records}

pub true_t : {b : Bool} → b ≡ true → T b
true_t e = subst T (sym e) tt

pub T_true : (b : Bool) → T b → b ≡ true
T_true true t = refl
T_true false t = absurd t

-- the first four bytes are those of the number that they say
front : (l : List ℕ) → 4 ≤ length l → Bytes l → big_endian (value l) ≡ take 4 l
front [] h b = absurd (omega arith)
front (p ∷ []) h b = absurd (omega arith)
front (p ∷ q ∷ []) h b = absurd (omega arith)
front (p ∷ q ∷ r ∷ []) h b = absurd (omega arith)
front (p ∷ q ∷ r ∷ s ∷ l) h b = big_endian_value p q r s (b 1) (b 2) (b 3)

cut : (t : List ℕ) → take 4 t ++ (take 4 (drop 4 t) ++ drop 8 t) ≡ t
cut t =
    ap (λ (r : List ℕ). take 4 t ++ r) (ap (λ (r : List ℕ). take 4 (drop 4 t) ++ r) (sym (drop-drop 4 4 t)) ∙ take-append-drop 4 (drop 4 t))
    ∙ take-append-drop 4 t

-- ---- The bytes of a catalogue

pub record Parts (es : List Entry) : Type 0 where
  pub few : length es ≤ 1024
  pub up : rising 0 es ≡ true
  pub fit : all_fit es ≡ true

pub parts : (es : List Entry) → is_catalogue es ≡ true → Parts es
parts es c =
    let first = (and-eq-true_iff (leb (length es) 1024) _).0 c in
    let rest = (and-eq-true_iff (rising 0 es) (all_fit es)).0 first.1 in
    record { few = leb-true _ _ first.0; up = rest.0; fit = rest.1 }

pub catalogue : (es : List Entry) → Parts es → is_catalogue es ≡ true
catalogue es p = rw (le-leb _ _ p.few, p.up, p.fit)

pub length_bytes : (es : List Entry) → length (bytes es) ≡ 266248
unfolding bytes
length_bytes es = ap (λ (n : ℕ). suc (suc (suc (suc (suc (suc (suc (suc n)))))))) (length_padded 266240 (places es))

pub value_bytes : (es : List Entry) → value (bytes es) ≡ length es
unfolding bytes
value_bytes es = value_big_endian (length es) []

pub held_bytes : (es : List Entry) → value (drop 4 (bytes es)) ≡ distinct (keys es)
unfolding bytes
held_bytes es = value_big_endian (distinct (keys es)) []

pub body_bytes : (es : List Entry) → length es ≤ 1024 → drop 8 (bytes es) ≡ places es ++ replicate (266240 - length es * 260) 0
unfolding bytes
body_bytes es h = padded_zeros 266240 (places es) (omega (arith, length_places es)) ∙ ap (λ (n : ℕ). places es ++ replicate (266240 - n) 0) (length_places es)

pub entries_bytes : (es : List Entry) → is_catalogue es ≡ true → entries (bytes es) ≡ es
unfolding entries
entries_bytes es c =
    let p = parts es c in
    ap₂ entries_of (value_bytes es) (body_bytes es p.few) ∙ entries_places es (replicate (266240 - length es * 260) 0) p.fit

pub formed_bytes : (es : List Entry) → is_catalogue es ≡ true → formed (bytes es) ≡ true
unfolding formed
formed_bytes es c =
    subst (λ (fs : List Entry). is_catalogue fs && same (bytes es) (bytes fs) ≡ true) (sym (entries_bytes es c))
    ((and-eq-true_iff (is_catalogue es) (same (bytes es) (bytes es))).1 (c, T_true (same (bytes es) (bytes es)) (same_refl (bytes es))))

-- ---- A store of the form

pub held_formed : {es : List Entry} {store : List ℕ} → Held es store → formed store ≡ true
held_formed {es} {store} h = ap formed h.stored ∙ formed_bytes es h.catalogue

pub formed_held : (store : List ℕ) → formed store ≡ true → Held (entries store) store
unfolding formed
formed_held store f =
    let both = (and-eq-true_iff (is_catalogue (entries store)) _).0 f in
    record { catalogue = both.0; stored = same_eq store (bytes (entries store)) (true_t both.1) }

-- what the code asks, one after the other
pub record Asked (store : List ℕ) : Type 0 where
  pub long : length store ≡ 266248
  pub few : value store ≤ 1024
  pub hold : places_hold 0 (value store) (drop 8 store) ≡ true
  pub rest : all zero? (drop (8 + value store * 260) store) ≡ true
  pub held : value (drop 4 store) ≡ distinct (records (value store) (drop 8 store))

asked_bytes : (es : List Entry) → is_catalogue es ≡ true → Asked (bytes es)
asked_bytes es c = record {
  long = length_bytes es;
  few = subst (λ (n : ℕ). n ≤ 1024) (sym (value_bytes es)) p.few;
  hold = ap₂ (places_hold 0) (value_bytes es) body ∙ hold_places es 0 zeros p.up p.fit;
  rest = ap (λ (n : ℕ). all zero? (drop (8 + n * 260) (bytes es))) (value_bytes es) ∙ (ap (all zero?) behind ∙ zeros_zero (266240 - length es * 260));
  held = held_bytes es ∙ sym (ap₂ (λ (n : ℕ) (l : List ℕ). distinct (records n l)) (value_bytes es) body ∙ distinct_records es zeros p.fit);
}
  where
    p : Parts es
    p = parts es c

    zeros : List ℕ
    zeros = replicate (266240 - length es * 260) 0

    body : drop 8 (bytes es) ≡ places es ++ zeros
    body = body_bytes es p.few

    behind : drop (8 + length es * 260) (bytes es) ≡ zeros
    behind =
        sym (drop-drop (length es * 260) 8 (bytes es)) ∙ (ap (drop (length es * 260)) body ∙ drop_at (places es) zeros (length es * 260) (length_places es))

pub formed_asked : (store : List ℕ) → formed store ≡ true → Asked store
formed_asked store f =
    let h = formed_held store f in
    subst Asked (sym h.stored) (asked_bytes (entries store) h.catalogue)

pub asked_formed : (store : List ℕ) → Bytes store → Asked store → formed store ≡ true
unfolding bytes
asked_formed store b a = held_formed {es = es} (record { catalogue = catalogue es (record { few = rw s.count a.few; up = s.up; fit = s.fit }); stored = stored })
  where
    n : ℕ
    n = value store

    l : List ℕ
    l = drop 8 store

    es : List Entry
    es = entries_of n l

    long : length l ≡ 266240
    long = omega (arith, length-drop 8 store, a.long)

    s : Said 0 n l
    s = said n 0 l (omega (arith, long, a.few)) (bytes_drop 8 store b) a.hold

    whole : l ≡ places es ++ drop (n * 260) l
    whole = sym (take-append-drop (n * 260) l) ∙ ap (λ (r : List ℕ). r ++ drop (n * 260) l) (sym s.same)

    counted : distinct (records n l) ≡ distinct (keys es)
    counted =
        ap (λ (r : List ℕ). distinct (records n r)) whole
        ∙ (ap (λ (k : ℕ). distinct (records k (places es ++ drop (n * 260) l))) (sym s.count) ∙ distinct_records es (drop (n * 260) l) s.fit)

    zeros : all zero? (drop (n * 260) (take 266240 l)) ≡ true
    zeros =
        ap (λ (r : List ℕ). all zero? (drop (n * 260) r)) (take_all 266240 l (omega (arith, long))) ∙ (ap (all zero?) (drop-drop (n * 260) 8 store) ∙ a.rest)

    padding : padded 266240 (places es) ≡ l
    padding =
        ap (padded 266240) s.same
        ∙ (padded_take 266240 (n * 260) l (omega (arith, long)) (omega (arith, a.few)) zeros ∙ take_all 266240 l (omega (arith, long)))

    stored : store ≡ bytes es
    stored = sym (cut store) ∙ ap₂ (λ (x y : List ℕ). x ++ y) first (ap₂ (λ (x y : List ℕ). x ++ y) second (sym padding))
      where
        first : take 4 store ≡ big_endian (length es)
        first = sym (front store (omega (arith, a.long)) b) ∙ ap big_endian (sym s.count)

        second : take 4 (drop 4 store) ≡ big_endian (distinct (keys es))
        second = sym (front (drop 4 store) (omega (arith, length-drop 4 store, a.long)) (bytes_drop 4 store b)) ∙ ap big_endian (a.held ∙ counted)

-- ---- The answers of `form`

pub not_formed : (store : List ℕ) → (formed store ≡ true → ⊥) → false ≡ formed store
not_formed store never = go (formed store) refl
  where
    go : (b : Bool) → formed store ≡ b → false ≡ b
    go true e = absurd (never e)
    go false e = refl

pub refused_long : (store : List ℕ) → (length store ≡ 266248 → ⊥) → false ≡ formed store
refused_long store h = not_formed store (λ f. h (formed_asked store f).long)

pub refused_few : (store : List ℕ) → 1024 < value store → false ≡ formed store
refused_few store h = not_formed store (λ f. absurd (omega (arith, (formed_asked store f).few)))

pub refused_hold : (store : List ℕ) → places_hold 0 (value store) (drop 8 store) ≡ false → false ≡ formed store
refused_hold store h = not_formed store (λ f. absurd (false_true (sym h ∙ (formed_asked store f).hold)))
  where
    false_true : false ≡ true → ⊥
    false_true e = subst T (sym e) tt

pub refused_rest : (store : List ℕ) → all zero? (drop (8 + value store * 260) store) ≡ false → false ≡ formed store
refused_rest store h = not_formed store (λ f. absurd (subst T (sym (sym h ∙ (formed_asked store f).rest)) tt))

pub answered : (store : List ℕ) → Bytes store → length store ≡ 266248 → value store ≤ 1024 → places_hold 0 (value store) (drop 8 store) ≡ true
    → all zero? (drop (8 + value store * 260) store) ≡ true → eqb (value (drop 4 store)) (distinct (records (value store) (drop 8 store))) ≡ formed store
answered store b l f h r = go (eqb held count) refl
  where
    held : ℕ
    held = value (drop 4 store)

    count : ℕ
    count = distinct (records (value store) (drop 8 store))

    go : (t : Bool) → eqb held count ≡ t → t ≡ formed store
    go true e = sym (asked_formed store b (record { long = l; few = f; hold = h; rest = r; held = eqb-true held count e }))
    go false e = not_formed store (λ y. absurd (subst T (sym (sym e ∙ eq-eqb held count (formed_asked store y).held)) tt))
