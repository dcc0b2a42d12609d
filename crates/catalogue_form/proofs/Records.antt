-- What stands behind a place's number tells keys apart, so the different keys are counted there. Assumes nothing.
use Prim.Native.Nat.{ℕ, suc, ◌≤◌}
use mathlib.Core.Path.{◌≡◌, refl, sym, ap, ap₂, subst, ◌∙◌}
use mathlib.Core.Bool.{Bool, true, false, and-eq-true_iff}
use mathlib.Core.List.{List, [], ◌∷◌, ◌++◌, append_assoc}
use borrow.Author.Tests.{leb-true}
use lib.Dec.{T, leb}
use lib.ListN.{length, get_or, take, drop}
use lib.Seq.{take_at}
use Rattle.questions.specs.Buffer.{padded}
use Rattle.questions.proofs.Buffers.{length_padded, take_padded}
use Rattle.catalogue_distinct.specs.Distinct.{same, among, distinct, records}
use Rattle.catalogue_distinct.proofs.Same.{same_eq, same_refl}
use Rattle.catalogue_form.specs.Form.{Entry, keys, fits, all_fit, place, places}
use Rattle.catalogue_form.proofs.Places.{drop_place}

abbrev record_of : List ℕ → List ℕ
record_of k = length k ∷ padded 255 k

abbrev records_of : List Entry → List (List ℕ)
records_of [] = []
records_of (e ∷ es) = record_of e.key ∷ records_of es

records_places : (es : List Entry) (l : List ℕ) → records (length es) (places es ++ l) ≡ records_of es
records_places [] l = refl
records_places (e ∷ es) l = ap (records (suc (length es))) (append_assoc (place e) (places es) l) ∙ ap₂ (λ (x : List ℕ) (y : List (List ℕ)). x ∷ y) first (rest (records_places es l))
  where
    first : take 256 (drop 4 (place e ++ (places es ++ l))) ≡ record_of e.key
    first = ap (λ (r : List ℕ). length e.key ∷ r) (take_at (padded 255 e.key) (places es ++ l) 255 (length_padded 255 e.key))

    rest : records (length es) (places es ++ l) ≡ records_of es → records (length es) (drop 260 (place e ++ (places es ++ l))) ≡ records_of es
    rest ih = ap (records (length es)) (drop_place e (places es ++ l)) ∙ ih

-- two tests that hold together are equal
both_ways : (a b : Bool) → (T a → T b) → (T b → T a) → a ≡ b
both_ways true true f g = refl
both_ways true false f g = absurd (f tt)
both_ways false true f g = absurd (g tt)
both_ways false false f g = refl

pub short : (e : Entry) → fits e ≡ true → length e.key ≤ 255
short e f = leb-true _ _ ((and-eq-true_iff (leb e.number 0xFFFFFFFF) _).0 f).1

same_records : (j k : List ℕ) → length j ≤ 255 → length k ≤ 255 → same (record_of j) (record_of k) ≡ same j k
same_records j k hj hk = both_ways (same (record_of j) (record_of k)) (same j k) there back
  where
    one : record_of j ≡ record_of k → j ≡ k
    one e =
        sym (take_padded 255 j hj)
        ∙ (ap (λ (r : List ℕ). take (get_or r 0 0) (drop 1 r)) e ∙ take_padded 255 k hk)

    there : T (same (record_of j) (record_of k)) → T (same j k)
    there t = subst (λ (l : List ℕ). T (same j l)) (one (same_eq (record_of j) (record_of k) t)) (same_refl j)

    back : T (same j k) → T (same (record_of j) (record_of k))
    back t = subst (λ (l : List ℕ). T (same (record_of j) (record_of l))) (same_eq j k t) (same_refl (record_of j))

among_records : (k : List ℕ) (es : List Entry) → length k ≤ 255 → all_fit es ≡ true → among (record_of k) (records_of es) ≡ among k (keys es)
among_records k [] h f = refl
among_records k (e ∷ es) h f =
    let b = (and-eq-true_iff (fits e) (all_fit es)).0 f in
    rw (same_records k e.key h (short e b.0), among_records k es h b.1)

distinct_records_of : (es : List Entry) → all_fit es ≡ true → distinct (records_of es) ≡ distinct (keys es)
distinct_records_of [] f = refl
distinct_records_of (e ∷ es) f =
    let b = (and-eq-true_iff (fits e) (all_fit es)).0 f in
    rw (among_records e.key es (short e b.0) b.1, distinct_records_of es b.1)

-- as many different records as keys
pub distinct_records : (es : List Entry) (l : List ℕ) → all_fit es ≡ true → distinct (records (length es) (places es ++ l)) ≡ distinct (keys es)
distinct_records es l f = ap distinct (records_places es l) ∙ distinct_records_of es f
