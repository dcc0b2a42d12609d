-- Entries by rising number: where one stands, and that entering, removing and finding keep to it. Assumes nothing.
use Prim.Native.Nat.{ℕ, suc, min, ◌+◌, ◌≤◌, ◌<◌}
use mathlib.Core.Path.{◌≡◌, refl, sym, ap, subst, ◌∙◌}
use mathlib.Core.Bool.{Bool, true, false, cond, and-eq-true_iff}
use mathlib.Core.List.{List, [], ◌∷◌, ◌++◌}
use native.Mathlib.Omega.{arith}
use borrow.Author.Tests.{leb-true, le-leb, ltb-true, ltb-false, eqb-true, eqb-false, eq-eqb, ne_eqb}
use lib.Dec.{T, leb, ltb, eqb}
use lib.ListN.{length, take, drop}
use Rattle.catalogue_distinct.specs.Distinct.{same}
use Rattle.catalogue_form.specs.Form.{Entry, fits, all_fit, rising}
use Rattle.catalogue_form.specs.Entries.{numbered, entered, without, having, least_from, smallest}
use Rattle.catalogue_places.specs.Promises.{before, headed, first_number}
use Rattle.catalogue_changes.specs.Promises.{put_at, taken_at}

false_true : false ≡ true → ⊥
false_true e = subst T (sym e) tt

above : (x y : ℕ) → y ≤ x → (x ≡ y → ⊥) → suc y ≤ x
above x y h never = by (eqb x y) refl
  where
    by : (t : Bool) → eqb x y ≡ t → suc y ≤ x
    by true p = absurd (never (eqb-true x y p))
    by false p = omega (arith, eqb-false x y p)

-- what a rising list's first entry and rest are
record Up (m : ℕ) (e : Entry) (es : List Entry) : Type 0 where
  low : m ≤ e.number
  rest : rising (suc e.number) es ≡ true

up : (m : ℕ) (e : Entry) (es : List Entry) → rising m (e ∷ es) ≡ true → Up m e es
up m e es r =
    let both = (and-eq-true_iff (leb m e.number) (rising (suc e.number) es)).0 r in
    record { low = leb-true m e.number both.0; rest = both.1 }

upward : (m : ℕ) (e : Entry) (es : List Entry) → m ≤ e.number → rising (suc e.number) es ≡ true → rising m (e ∷ es) ≡ true
upward m e es h r = rw (le-leb m e.number h) r

rising_lower : (k m : ℕ) (es : List Entry) → m ≤ k → rising k es ≡ true → rising m es ≡ true
rising_lower k m [] h r = refl
rising_lower k m (e ∷ es) h r =
    let u = up k e es r in
    let l : m ≤ e.number = omega (arith, u.low) in
    upward m e es l u.rest

-- a number below all is not present
absent : (m n : ℕ) (es : List Entry) → n < m → rising m es ≡ true → numbered n es ≡ false
absent m n [] h r = refl
absent m n (e ∷ es) h r =
    let u = up m e es r in
    let l : n < suc e.number = omega (arith, u.low) in
    rw (ne_eqb e.number n (λ q. omega (arith, u.low))) (absent (suc e.number) n es l u.rest)

-- ---- where a number stands

pub before_low : (n : ℕ) (es : List Entry) → before n es ≤ length es
before_low n [] = omega arith
before_low n (e ∷ es) = go (before_low n es) (ltb e.number n)
  where
    go : before n es ≤ length es → (t : Bool) → cond t (suc (before n es)) 0 ≤ suc (length es)
    go ih true = omega (arith, ih)
    go ih false = omega arith

-- a number is present where the entry at its place has it
pub numbered_headed : (m n : ℕ) (es : List Entry) → rising m es ≡ true → numbered n es ≡ headed n (drop (before n es) es)
numbered_headed m n [] r = refl
numbered_headed m n (e ∷ es) r = go (numbered_headed (suc e.number) n es (up m e es r).rest) (ltb e.number n) refl
  where
    u : Up m e es
    u = up m e es r

    here : (t : Bool) → eqb e.number n ≡ t → n ≤ e.number → cond t true (numbered n es) ≡ t
    here true p h = refl
    here false p h =
        let l : n < suc e.number = omega arith in
        absent (suc e.number) n es l u.rest

    go : numbered n es ≡ headed n (drop (before n es) es) → (t : Bool) → ltb e.number n ≡ t
        → cond (eqb e.number n) true (numbered n es) ≡ headed n (drop (cond t (suc (before n es)) 0) (e ∷ es))
    go ih true p =
        let l : e.number < n = ltb-true e.number n p in
        rw (ne_eqb e.number n (λ q. omega arith)) ih
    go ih false p = here (eqb e.number n) refl (ltb-false e.number n p)

-- an entry is entered at its number's place
pub entered_put : (e : Entry) (es : List Entry) → entered e es ≡ put_at (before e.number es) e es
entered_put e [] = refl
entered_put e (f ∷ fs) = go (entered_put e fs) (ltb f.number e.number) refl
  where
    go : entered e fs ≡ put_at (before e.number fs) e fs → (t : Bool) → ltb f.number e.number ≡ t
        → cond t (f ∷ entered e fs) (e ∷ f ∷ fs) ≡ put_at (cond t (suc (before e.number fs)) 0) e (f ∷ fs)
    go ih true p = ap (λ (r : List Entry). f ∷ r) ih
    go ih false p = refl

without_absent : (m n : ℕ) (es : List Entry) → n < m → rising m es ≡ true → without n es ≡ es
without_absent m n [] h r = refl
without_absent m n (e ∷ es) h r =
    let u = up m e es r in
    let l : n < suc e.number = omega (arith, u.low) in
    rw (ne_eqb e.number n (λ q. omega (arith, u.low))) (ap (λ (s : List Entry). e ∷ s) (without_absent (suc e.number) n es l u.rest))

-- and removed from there
pub without_taken : (m n : ℕ) (es : List Entry) → rising m es ≡ true → numbered n es ≡ true → without n es ≡ taken_at (before n es) es
without_taken m n [] r t = absurd (false_true t)
without_taken m n (e ∷ es) r t = go (without_taken (suc e.number) n es (up m e es r).rest) (ltb e.number n) refl
  where
    u : Up m e es
    u = up m e es r

    further : (k : ℕ) → taken_at (suc k) (e ∷ es) ≡ e ∷ taken_at k es
    further k =
        let s : suc k + 1 ≡ suc (k + 1) = omega arith in
        ap (λ (i : ℕ). take (suc k) (e ∷ es) ++ drop i (e ∷ es)) s

    here : (q : Bool) → eqb e.number n ≡ q → n ≤ e.number → cond q (without n es) (e ∷ without n es) ≡ es
    here true p h =
        let l : n < suc e.number = omega arith in
        without_absent (suc e.number) n es l u.rest
    here false p h =
        let l : n < suc e.number = omega arith in
        absurd (false_true (sym (absent (suc e.number) n es l u.rest) ∙ rw p at t))

    go : (numbered n es ≡ true → without n es ≡ taken_at (before n es) es) → (q : Bool) → ltb e.number n ≡ q
        → cond (eqb e.number n) (without n es) (e ∷ without n es) ≡ taken_at (cond q (suc (before n es)) 0) (e ∷ es)
    go ih true p =
        let l : e.number < n = ltb-true e.number n p in
        let not : eqb e.number n ≡ false = ne_eqb e.number n (λ q. omega arith) in
        rw not (ap (λ (s : List Entry). e ∷ s) (ih (rw not at t)) ∙ sym (further (before n es)))
    go ih false p = here (eqb e.number n) refl (ltb-false e.number n p)

-- ---- entering and removing keep the order

pub entered_rising : (m : ℕ) (e : Entry) (es : List Entry) → m ≤ e.number → rising m es ≡ true → numbered e.number es ≡ false → rising m (entered e es) ≡ true
entered_rising m e [] h r a = upward m e [] h refl
entered_rising m e (f ∷ fs) h r a = go (λ l. entered_rising (suc f.number) e fs l (up m f fs r).rest) (ltb f.number e.number) refl
  where
    u : Up m f fs
    u = up m f fs r

    other : (t : Bool) → eqb f.number e.number ≡ t → cond t true (numbered e.number fs) ≡ false → (f.number ≡ e.number → ⊥) × (numbered e.number fs ≡ false)
    other true p q = absurd (false_true (sym q))
    other false p q = (eqb-false f.number e.number p, q)

    o : (f.number ≡ e.number → ⊥) × (numbered e.number fs ≡ false)
    o = other (eqb f.number e.number) refl a

    go : (suc f.number ≤ e.number → numbered e.number fs ≡ false → rising (suc f.number) (entered e fs) ≡ true) → (t : Bool)
        → ltb f.number e.number ≡ t → rising m (cond t (f ∷ entered e fs) (e ∷ f ∷ fs)) ≡ true
    go ih true p =
        let l : suc f.number ≤ e.number = ltb-true f.number e.number p in
        upward m f (entered e fs) u.low (ih l o.1)
    go ih false p =
        let g : e.number ≤ f.number = ltb-false f.number e.number p in
        let l : suc e.number ≤ f.number = above f.number e.number g o.0 in
        upward m e (f ∷ fs) h (upward (suc e.number) f fs l u.rest)

pub entered_length : (e : Entry) (es : List Entry) → length (entered e es) ≡ suc (length es)
entered_length e [] = refl
entered_length e (f ∷ fs) = go (entered_length e fs) (ltb f.number e.number)
  where
    go : length (entered e fs) ≡ suc (length fs) → (t : Bool) → length (cond t (f ∷ entered e fs) (e ∷ f ∷ fs)) ≡ suc (suc (length fs))
    go ih true = ap suc ih
    go ih false = refl

pub entered_fit : (e : Entry) (es : List Entry) → fits e ≡ true → all_fit es ≡ true → all_fit (entered e es) ≡ true
entered_fit e [] f a = rw f
entered_fit e (x ∷ xs) f a = go (entered_fit e xs f ((and-eq-true_iff (fits x) (all_fit xs)).0 a).1) (ltb x.number e.number)
  where
    both : (fits x ≡ true) × (all_fit xs ≡ true)
    both = (and-eq-true_iff (fits x) (all_fit xs)).0 a

    go : all_fit (entered e xs) ≡ true → (t : Bool) → all_fit (cond t (x ∷ entered e xs) (e ∷ x ∷ xs)) ≡ true
    go ih true = (and-eq-true_iff (fits x) (all_fit (entered e xs))).1 (both.0, ih)
    go ih false = (and-eq-true_iff (fits e) (all_fit (x ∷ xs))).1 (f, a)

pub without_rising : (m n : ℕ) (es : List Entry) → rising m es ≡ true → rising m (without n es) ≡ true
without_rising m n [] r = refl
without_rising m n (e ∷ es) r = go (without_rising (suc e.number) n es (up m e es r).rest) (eqb e.number n)
  where
    u : Up m e es
    u = up m e es r

    go : rising (suc e.number) (without n es) ≡ true → (t : Bool) → rising m (cond t (without n es) (e ∷ without n es)) ≡ true
    go ih true =
        let l : m ≤ suc e.number = omega (arith, u.low) in
        rising_lower (suc e.number) m (without n es) l ih
    go ih false = upward m e (without n es) u.low ih

pub without_length : (n : ℕ) (es : List Entry) → length (without n es) ≤ length es
without_length n [] = omega arith
without_length n (e ∷ es) = go (without_length n es) (eqb e.number n)
  where
    go : length (without n es) ≤ length es → (t : Bool) → length (cond t (without n es) (e ∷ without n es)) ≤ suc (length es)
    go ih true = omega (arith, ih)
    go ih false = omega (arith, ih)

pub without_fit : (n : ℕ) (es : List Entry) → all_fit es ≡ true → all_fit (without n es) ≡ true
without_fit n [] a = refl
without_fit n (e ∷ es) a = go (without_fit n es ((and-eq-true_iff (fits e) (all_fit es)).0 a).1) (eqb e.number n)
  where
    both : (fits e ≡ true) × (all_fit es ≡ true)
    both = (and-eq-true_iff (fits e) (all_fit es)).0 a

    go : all_fit (without n es) ≡ true → (t : Bool) → all_fit (cond t (without n es) (e ∷ without n es)) ≡ true
    go ih true = ih
    go ih false = (and-eq-true_iff (fits e) (all_fit (without n es))).1 (both.0, ih)

-- ---- entering, then removing and finding

pub entered_numbered : (e : Entry) (es : List Entry) → numbered e.number (entered e es) ≡ true
entered_numbered e [] = rw (eq-eqb e.number e.number refl)
entered_numbered e (f ∷ fs) = go (entered_numbered e fs) (ltb f.number e.number)
  where
    or : numbered e.number (entered e fs) ≡ true → (t : Bool) → cond t true (numbered e.number (entered e fs)) ≡ true
    or ih true = refl
    or ih false = ih

    go : numbered e.number (entered e fs) ≡ true → (t : Bool) → numbered e.number (cond t (f ∷ entered e fs) (e ∷ f ∷ fs)) ≡ true
    go ih true = or ih (eqb f.number e.number)
    go ih false = rw (eq-eqb e.number e.number refl)

without_gone : (n : ℕ) (es : List Entry) → numbered n es ≡ false → without n es ≡ es
without_gone n [] a = refl
without_gone n (x ∷ xs) a = by (without_gone n xs) (eqb x.number n) refl
  where
    by : (numbered n xs ≡ false → without n xs ≡ xs) → (t : Bool) → eqb x.number n ≡ t → cond t (without n xs) (x ∷ without n xs) ≡ x ∷ xs
    by ih true p = absurd (false_true (sym (rw p at a)))
    by ih false p = ap (λ (r : List Entry). x ∷ r) (ih (rw p at a))

pub without_entered : (e : Entry) (es : List Entry) → numbered e.number es ≡ false → without e.number (entered e es) ≡ es
without_entered e [] a = rw (eq-eqb e.number e.number refl)
without_entered e (f ∷ fs) a = go (without_entered e fs) (ltb f.number e.number) (eqb f.number e.number) refl
  where
    go : (numbered e.number fs ≡ false → without e.number (entered e fs) ≡ fs)
        → (t q : Bool) → eqb f.number e.number ≡ q → without e.number (cond t (f ∷ entered e fs) (e ∷ f ∷ fs)) ≡ f ∷ fs
    go ih t true p = absurd (false_true (sym (rw p at a)))
    go ih true false p = rw p (ap (λ (r : List Entry). f ∷ r) (ih (rw p at a)))
    go ih false false p = rw (eq-eqb e.number e.number refl) (without_gone e.number (f ∷ fs) a)

-- one more has its key, and the others are the same
pub having_entered : (e : Entry) (es : List Entry) → same e.key e.key ≡ true → length (having e.key (entered e es)) ≡ suc (length (having e.key es))
having_entered e [] s = rw s
having_entered e (f ∷ fs) s = go (having_entered e fs s) (ltb f.number e.number)
  where
    k : List ℕ
    k = e.key

    more : length (having k (entered e fs)) ≡ suc (length (having k fs)) → (t : Bool)
        → length (cond t (f ∷ having k (entered e fs)) (having k (entered e fs))) ≡ suc (length (cond t (f ∷ having k fs) (having k fs)))
    more ih true = ap suc ih
    more ih false = ih

    go : length (having k (entered e fs)) ≡ suc (length (having k fs)) → (t : Bool) → length (having k (cond t (f ∷ entered e fs) (e ∷ f ∷ fs))) ≡ suc (length (having k (f ∷ fs)))
    go ih true = more ih (same k f.key)
    go ih false = rw s

-- ---- the smallest number

least_low : (k : List ℕ) (m n : ℕ) (es : List Entry) → n ≤ m → rising m es ≡ true → least_from n (having k es) ≡ n
least_low k m n [] h r = refl
least_low k m n (e ∷ es) h r = go (least_low k (suc e.number) n es (omega (arith, (up m e es r).low)) (up m e es r).rest) (same k e.key)
  where
    u : Up m e es
    u = up m e es r

    go : least_from n (having k es) ≡ n → (t : Bool) → least_from n (cond t (e ∷ having k es) (having k es)) ≡ n
    go ih true =
        let s : min n e.number ≡ n = omega (arith, u.low) in
        ap (λ (i : ℕ). least_from i (having k es)) s ∙ ih
    go ih false = ih

-- by rising number the first is the smallest
pub smallest_first : (k : List ℕ) (m : ℕ) (es : List Entry) → rising m es ≡ true → first_number (having k es) ≡ smallest (having k es)
smallest_first k m [] r = refl
smallest_first k m (e ∷ es) r = go (smallest_first k (suc e.number) es (up m e es r).rest) (same k e.key)
  where
    u : Up m e es
    u = up m e es r

    go : first_number (having k es) ≡ smallest (having k es) → (t : Bool) → first_number (cond t (e ∷ having k es) (having k es)) ≡ smallest (cond t (e ∷ having k es) (having k es))
    go ih true = sym (least_low k (suc e.number) e.number es (omega arith) u.rest)
    go ih false = ih
