-- How one entry more or less changes the number of different keys. Assumes nothing.
use Prim.Native.Nat.{ℕ, suc, ◌+◌, ◌-◌, ◌≤◌}
use mathlib.Core.Path.{◌≡◌, refl, sym, ap, subst, ◌∙◌}
use mathlib.Core.Bool.{Bool, true, false, cond, not}
use Rattle.std.specs.Int.{from_bool}
use mathlib.Core.List.{List, [], ◌∷◌, ◌++◌}
use native.Mathlib.Numerals.{add-one}
use native.Mathlib.Omega.{arith}
use borrow.Author.Tests.{ne_eqb}
use lib.Dec.{T, eqb, eqb-suc-suc}
use lib.ListN.{length, take, drop, take-append-drop}
use Rattle.catalogue_distinct.specs.Distinct.{same, among, distinct}
use Rattle.catalogue_distinct.proofs.Same.{same_eq, same_refl, among_append}
use Rattle.catalogue_form.specs.Form.{Entry, keys}
use Rattle.catalogue_form.specs.Entries.{having}
use Rattle.catalogue_form.proofs.Forms.{true_t, T_true}
use Rattle.catalogue_changes.specs.Promises.{put_at, taken_at}

same_sym : (a b : List ℕ) → same a b ≡ same b a
same_sym a b = go (same a b) (same b a) refl refl
  where
    go : (x y : Bool) → same a b ≡ x → same b a ≡ y → x ≡ y
    go true true p q = refl
    go false false p q = refl
    go true false p q = sym (T_true (same b a) (subst (λ (l : List ℕ). T (same l a)) (same_eq a b (true_t p)) (same_refl a))) ∙ q
    go false true p q = sym p ∙ T_true (same a b) (subst (λ (l : List ℕ). T (same l b)) (same_eq b a (true_t q)) (same_refl b))

-- ---- one string more

distinct_put : (f b : List (List ℕ)) (k : List ℕ) → distinct (f ++ k ∷ b) ≡ distinct (f ++ b) + cond (among k (f ++ b)) 0 1
distinct_put [] b k = go (among k b) refl
  where
    go : (t : Bool) → among k b ≡ t → cond t (distinct b) (suc (distinct b)) ≡ distinct b + cond t 0 1
    go true e = omega arith
    go false e = omega arith
distinct_put (x ∷ f) b k = all (distinct_put f b k) (same x k) (among x (f ++ b)) (among k (f ++ b)) refl refl refl
  where
    d : ℕ
    d = distinct (f ++ b)

    more : (t u : Bool) → same x k ≡ t → among x (f ++ b) ≡ u → among x (f ++ k ∷ b) ≡ cond t true u
    more t u p q = among_append x f (k ∷ b) ∙ side (among x f) (among x b) refl refl
      where
        side : (v w : Bool) → among x f ≡ v → among x b ≡ w → cond v true (cond (same x k) true w) ≡ cond t true u
        side v w r s = rw (p, ← q, among_append x f b, r, s) (tests t v w)
          where
            tests : (t v w : Bool) → cond v true (cond t true w) ≡ cond t true (cond v true w)
            tests true true w = refl
            tests true false w = refl
            tests false true w = refl
            tests false false w = refl

    all : distinct (f ++ k ∷ b) ≡ d + cond (among k (f ++ b)) 0 1 → (t u v : Bool) → same x k ≡ t → among x (f ++ b) ≡ u → among k (f ++ b) ≡ v
        → cond (among x (f ++ k ∷ b)) (distinct (f ++ k ∷ b)) (suc (distinct (f ++ k ∷ b))) ≡ cond u d (suc d) + cond (cond (same k x) true v) 0 1
    all ih true u v p q r = rw (more true u p q, same_sym k x, p, ih, r) (one u v (sym q ∙ (ap (λ (l : List ℕ). among l (f ++ b)) (same_eq x k (true_t p)) ∙ r)))
      where
        one : (u v : Bool) → u ≡ v → d + cond v 0 1 ≡ cond u d (suc d) + 0
        one true true e = omega arith
        one false false e = omega arith
        one true false e = absurd (true_t (sym e))
        one false true e = absurd (true_t e)
    all ih false u v p q r = rw (more false u p q, same_sym k x, p, ih, r) (other u v)
      where
        other : (u v : Bool) → cond u (d + cond v 0 1) (suc (d + cond v 0 1)) ≡ cond u d (suc d) + cond v 0 1
        other true v = refl
        other false v = omega arith

pub distinct_low : (ks : List (List ℕ)) → distinct ks ≤ length ks
distinct_low [] = omega arith
distinct_low (k ∷ ks) = go (among k ks) (distinct_low ks)
  where
    go : (t : Bool) → distinct ks ≤ length ks → cond t (distinct ks) (suc (distinct ks)) ≤ suc (length ks)
    go true h = omega arith
    go false h = omega arith

-- ---- entries and their keys

pub length_keys : (es : List Entry) → length (keys es) ≡ length es
length_keys [] = refl
length_keys (e ∷ es) = ap suc (length_keys es)

keys_append : (es fs : List Entry) → keys (es ++ fs) ≡ keys es ++ keys fs
keys_append [] fs = refl
keys_append (e ∷ es) fs = ap (λ (r : List (List ℕ)). e.key ∷ r) (keys_append es fs)

-- a key is among those of the entries where some have it
pub among_having : (k : List ℕ) (es : List Entry) → not (among k (keys es)) ≡ eqb (length (having k es)) 0
among_having k [] = refl
among_having k (e ∷ es) = go (among_having k es) (same k e.key)
  where
    go : not (among k (keys es)) ≡ eqb (length (having k es)) 0 → (t : Bool)
        → not (cond t true (among k (keys es))) ≡ eqb (length (cond t (e ∷ having k es) (having k es))) 0
    go ih true = sym (ne_eqb (suc (length (having k es))) 0 (λ q. omega arith))
    go ih false = ih

-- what a test adds to a count, or takes from it
pub one_if : (b : Bool) → from_bool b ≡ cond b 1 0
one_if true = refl
one_if false = refl

pub one_of : (b : Bool) → from_bool (not b) ≡ cond b 0 1
one_of true = refl
one_of false = refl

having_one : (k : List ℕ) (f b : List Entry) (e : Entry) → same k e.key ≡ true → length (having k (f ++ e ∷ b)) ≡ suc (length (having k (f ++ b)))
having_one k [] b e s = rw s
having_one k (x ∷ f) b e s = go (same k x.key) (having_one k f b e s)
  where
    go : (t : Bool) → length (having k (f ++ e ∷ b)) ≡ suc (length (having k (f ++ b)))
        → length (cond t (x ∷ having k (f ++ e ∷ b)) (having k (f ++ e ∷ b))) ≡ suc (length (cond t (x ∷ having k (f ++ b)) (having k (f ++ b))))
    go true ih = ap suc ih
    go false ih = ih

module _ (es : List Entry) (at : ℕ) where
  whole : es ≡ take at es ++ drop at es
  whole = sym (take-append-drop at es)

  -- an entry more
  pub distinct_put_at : (e : Entry) → distinct (keys (put_at at e es)) ≡ distinct (keys es) + cond (among e.key (keys es)) 0 1
  distinct_put_at e =
      ap distinct (keys_append (take at es) (e ∷ drop at es))
      ∙ (distinct_put (keys (take at es)) (keys (drop at es)) e.key
      ∙ ap (λ (l : List (List ℕ)). distinct l + cond (among e.key l) 0 1) (sym (keys_append (take at es) (drop at es)) ∙ ap keys (sym whole)))

  -- an entry less
  module _ (e : Entry) (d : drop at es ≡ e ∷ drop (suc at) es) where
    cut : es ≡ take at es ++ e ∷ drop (at + 1) es
    cut = whole ∙ ap (λ (r : List Entry). take at es ++ r) (d ∙ ap (λ (k : ℕ). e ∷ drop k es) (sym (add-one at)))

    more : distinct (keys es) ≡ distinct (keys (taken_at at es)) + cond (among e.key (keys (taken_at at es))) 0 1
    more =
        ap (λ (l : List Entry). distinct (keys l)) cut
        ∙ (ap distinct (keys_append (take at es) (e ∷ drop (at + 1) es))
        ∙ (distinct_put (keys (take at es)) (keys (drop (at + 1) es)) e.key
        ∙ ap (λ (l : List (List ℕ)). distinct l + cond (among e.key l) 0 1) (sym (keys_append (take at es) (drop (at + 1) es)))))

    one_more : length (having e.key es) ≡ suc (length (having e.key (taken_at at es)))
    one_more =
        ap (λ (l : List Entry). length (having e.key l)) cut
        ∙ having_one e.key (take at es) (drop (at + 1) es) e (T_true (same e.key e.key) (same_refl e.key))

    ones : ◌≡◌ {A = ℕ} (cond (among e.key (keys (taken_at at es))) 0 1) (cond (eqb (length (having e.key es)) 1) 1 0)
    ones =
        sym (one_of (among e.key (keys (taken_at at es))))
        ∙ (ap from_bool (among_having e.key (taken_at at es))
        ∙ (one_if (eqb (length (having e.key (taken_at at es))) 0) ∙ (ap (λ (t : Bool). cond t 1 0) (sym (eqb-suc-suc (length (having e.key (taken_at at es))) 0)) ∙ ap (λ (n : ℕ). cond (eqb n 1) 1 0) (sym one_more))))

    pub distinct_taken_at : distinct (keys (taken_at at es)) ≡ distinct (keys es) - cond (eqb (length (having e.key es)) 1) 1 0
    distinct_taken_at = omega (arith, more, ones)

    -- and the count is not below what is taken from it
    pub taken_low : cond (eqb (length (having e.key es)) 1) 1 0 ≤ distinct (keys es)
    taken_low = omega (arith, more, ones)
