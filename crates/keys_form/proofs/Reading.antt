-- The parts of a line, a byte at a time. Assumes nothing.
use Prim.Native.Nat.{ℕ, zero, suc, ◌+◌, ◌-◌, ◌*◌, ◌/◌, ◌%◌, ◌≤◌, ◌<◌}
use mathlib.Core.Path.{◌≡◌, refl, sym, ap, ap₂, ◌∙◌}
use mathlib.Core.Bool.{Bool, true, false, ◌&&◌, and-eq-true_iff}
use mathlib.Core.List.{List, [], ◌∷◌, ◌++◌, append-nil, append_assoc}
use native.Mathlib.Nat.{add-zero}
use native.Mathlib.Numerals.{add-one}
use native.Mathlib.Omega.{arith}
use borrow.Author.Tests.{eq-eqb, ne_eqb, eqb-true, lt-ltb, le-ltb, ltb-true, le-leb, lt-leb, leb-true}
use lib.Dec.{eqb, ltb, leb}
use lib.ListN.{length, take, drop, set, get_or, length-set, length-drop, drop_of_length-le}
use lib.Seq.{drop-cons, take-suc-set, take_all, length-take-le}
use Rattle.questions.specs.Questions.{all}
use Rattle.std.specs.Prelude.{Option, Some, None, is_some, if◌then◌else◌}
use Rattle.keys_form.specs.Line.{is_decimal, value_from, is_number, hex_value, is_hex_digit, is_hex, bytes_of, trimmed, tab_at, is_line}

and_false : (a : Bool) → a && false ≡ false
and_false true = refl
and_false false = refl

-- the byte at a place, and those behind it
pub from : (l : List ℕ) (i : ℕ) → i < length l → drop i l ≡ get_or l i 0 ∷ drop (i + 1) l
from l i h = drop-cons l i 0 h ∙ ap (λ (k : ℕ). get_or l i 0 ∷ drop k l) (sym (add-one i))

-- ---- the carriage return

pub trimmed_none : (l : List ℕ) → length l ≡ 0 → l ≡ trimmed l
unfolding trimmed
trimmed_none [] e = refl
trimmed_none (x ∷ l) e = absurd (omega arith)

pub trimmed_one : (l : List ℕ) → get_or l (length l - 1) 0 ≡ 0x0D → take (length l - 1) l ≡ trimmed l
unfolding trimmed
trimmed_one l e = rw e

pub trimmed_not : (l : List ℕ) → (get_or l (length l - 1) 0 ≡ 0x0D → ⊥) → l ≡ trimmed l
unfolding trimmed
trimmed_not l e = rw (ne_eqb (get_or l (length l - 1) 0) 0x0D e)

-- ---- the TAB

module _ (l : List ℕ) (i : ℕ) (h : i < length l) (e : tab_at l ≡ i + tab_at (drop i l)) where
  pub tab_here : get_or l i 0 ≡ 0x09 → i ≡ tab_at l
  unfolding tab_at
  tab_here t = sym (e ∙ (ap (λ (r : List ℕ). i + tab_at r) (from l i h) ∙ rw t (add-zero i)))

  pub tab_past : (get_or l i 0 ≡ 0x09 → ⊥) → tab_at l ≡ i + 1 + tab_at (drop (i + 1) l)
  unfolding tab_at
  tab_past t =
      let f : i + suc (tab_at (drop (i + 1) l)) ≡ i + 1 + tab_at (drop (i + 1) l) = omega arith in
      e ∙ (ap (λ (r : List ℕ). i + tab_at r) (from l i h) ∙ rw (ne_eqb (get_or l i 0) 0x09 t) f)

pub tab_none : (l : List ℕ) (i : ℕ) → length l ≤ i → tab_at l ≡ i + tab_at (drop i l) → i ≡ tab_at l
unfolding tab_at
tab_none l i h e = sym (e ∙ rw (drop_of_length-le l h) (add-zero i))

-- ---- NUMBER

pub decimal_range : (x : ℕ) → is_decimal x ≡ true → (0x30 ≤ x) × (x ≤ 0x39)
unfolding is_decimal
decimal_range x e = go (leb 0x30 x) (leb x 0x39) refl refl e
  where
    go : (a b : Bool) → leb 0x30 x ≡ a → leb x 0x39 ≡ b → a && b ≡ true → (0x30 ≤ x) × (x ≤ 0x39)
    go true true p q r = (leb-true 0x30 x p, leb-true x 0x39 q)
    go true false p q r = absurd (let z : ◌≡◌ {A = ℕ} 0 1 = cc in omega arith)
    go false b p q r = absurd (let z : ◌≡◌ {A = ℕ} 0 1 = cc in omega arith)

-- the digits that are left make a number behind v
abbrev pub numbers : ℕ → List ℕ → Bool
numbers v l = all is_decimal l && leb (value_from v l) 0xFFFFFFFF

value_least : (l : List ℕ) (v : ℕ) → v ≤ value_from v l
unfolding value_from
value_least [] v = omega arith
value_least (x ∷ l) v = omega (arith, value_least l (v * 10 + (x - 0x30)))

pub number_empty : (ds : List ℕ) → length ds < 1 → false ≡ is_number ds
unfolding is_number
number_empty ds h = rw (lt-leb 1 (length ds) h)

pub number_long : (ds : List ℕ) → 1 ≤ length ds → 10 < length ds → false ≡ is_number ds
unfolding is_number
number_long ds g h = rw (le-leb 1 (length ds) g, lt-leb (length ds) 10 h)

pub number_start : (ds : List ℕ) → 1 ≤ length ds → length ds ≤ 10 → is_number ds ≡ numbers 0 ds
unfolding is_number
number_start ds g h = rw (le-leb 1 (length ds) g, le-leb (length ds) 10 h)

pub number_over : (l : List ℕ) (v : ℕ) → 0xFFFFFFFF < v → numbers v l ≡ false
number_over l v h = ap (λ (b : Bool). all is_decimal l && b) (lt-leb (value_from v l) 0xFFFFFFFF (omega (arith, value_least l v))) ∙ and_false (all is_decimal l)

pub number_end : (l : List ℕ) (i v : ℕ) → length l ≤ i → v ≤ 0xFFFFFFFF → numbers v (drop i l) ≡ true
unfolding all value_from
number_end l i v h k = rw (drop_of_length-le l h) (le-leb v 0xFFFFFFFF k)

module _ (l : List ℕ) (i v : ℕ) (h : i < length l) where
  pub number_not : is_decimal (get_or l i 0) ≡ false → numbers v (drop i l) ≡ false
  unfolding all
  number_not e = ap (numbers v) (from l i h) ∙ rw e

  pub number_next : is_decimal (get_or l i 0) ≡ true → numbers v (drop i l) ≡ numbers (v * 10 + (get_or l i 0 - 0x30)) (drop (i + 1) l)
  unfolding all value_from
  number_next e = ap (numbers v) (from l i h) ∙ rw e

-- ---- HEX

module _ (x : ℕ) where
  pub hex_digit : 0x30 ≤ x → x ≤ 0x39 → x - 0x30 ≡ hex_value x
  unfolding hex_value
  hex_digit g h = rw (le-leb 0x30 x g, le-leb x 0x39 h)

  pub hex_upper : (0x30 ≤ x → 0x39 < x) → 0x41 ≤ x → x ≤ 0x46 → x - 0x37 ≡ hex_value x
  unfolding hex_value
  hex_upper k g h =
      let a : 0x30 ≤ x = omega arith in
      rw (le-leb 0x30 x a, lt-leb x 0x39 (k a), le-leb 0x41 x g, le-leb x 0x46 h)

  pub hex_lower : 0x61 ≤ x → x ≤ 0x66 → x - 0x57 ≡ hex_value x
  unfolding hex_value
  hex_lower g h =
      let a : 0x30 ≤ x = omega arith in
      let b : 0x39 < x = omega arith in
      let c : 0x41 ≤ x = omega arith in
      let d : 0x46 < x = omega arith in
      rw (le-leb 0x30 x a, lt-leb x 0x39 b, le-leb 0x41 x c, lt-leb x 0x46 d, le-leb 0x61 x g, le-leb x 0x66 h)

  pub hex_none : (0x30 ≤ x → 0x39 < x) → (0x41 ≤ x → 0x46 < x) → (0x61 ≤ x → 0x66 < x) → 16 ≡ hex_value x
  unfolding hex_value
  hex_none f g h = go (leb 0x30 x) (leb 0x41 x) (leb 0x61 x) refl refl refl
    where
      within : (a : Bool) (low high : ℕ) → leb low x ≡ a → (low ≤ x → high < x) → a && leb x high ≡ false
      within true low high e k = lt-leb x high (k (leb-true low x e))
      within false low high e k = refl

      go : (a b c : Bool) → leb 0x30 x ≡ a → leb 0x41 x ≡ b → leb 0x61 x ≡ c → 16 ≡ hex_value x
      go a b c p q r = rw (p, q, r) (rw (within a 0x30 0x39 p f, within b 0x41 0x46 q g, within c 0x61 0x66 r h))

-- the digit, or none
pub hex_some : (x v : ℕ) → v ≡ hex_value x → v < 16 → Some v ≡ (if is_hex_digit x then Some (hex_value x) else None)
unfolding is_hex_digit
hex_some x v e h = rw (← e, lt-ltb v 16 h)

pub hex_other : (x : ℕ) → 16 ≡ hex_value x → None ≡ (if is_hex_digit x then Some (hex_value x) else None)
unfolding is_hex_digit
hex_other x e = rw (← e)

pub hex_read : (x : ℕ) {o : Option ℕ} → o ≡ (if is_hex_digit x then Some (hex_value x) else None) → hex_value x < 16 → o ≡ Some (hex_value x)
unfolding is_hex_digit
hex_read x e h = e ∙ rw (lt-ltb (hex_value x) 16 h)

-- whether there is one
pub hex_is : (x : ℕ) {o : Option ℕ} → o ≡ (if is_hex_digit x then Some (hex_value x) else None) → is_some o ≡ is_hex_digit x
hex_is x e = ap is_some e ∙ go (is_hex_digit x)
  where
    go : (b : Bool) → is_some (if b then Some (hex_value x) else None) ≡ b
    go true = refl
    go false = refl

pub hex_long : (ds : List ℕ) → 131070 < length ds → false ≡ is_hex ds
unfolding is_hex
hex_long ds h = rw (lt-leb (length ds) 131070 h)

pub hex_odd : (ds : List ℕ) → length ds ≤ 131070 → (length ds % 2 ≡ 0 → ⊥) → false ≡ is_hex ds
unfolding is_hex
hex_odd ds g h = rw (le-leb (length ds) 131070 g, ne_eqb (length ds % 2) 0 h)

pub hex_start : (ds : List ℕ) → length ds ≤ 131070 → length ds % 2 ≡ 0 → is_hex ds ≡ all is_hex_digit ds
unfolding is_hex
hex_start ds g h = rw (le-leb (length ds) 131070 g, eq-eqb (length ds % 2) 0 h)

pub hex_end : (l : List ℕ) (i : ℕ) → length l ≤ i → all is_hex_digit (drop i l) ≡ true
unfolding all
hex_end l i h = rw (drop_of_length-le l h)

module _ (l : List ℕ) (i : ℕ) (h : i < length l) where
  pub hex_not : is_hex_digit (get_or l i 0) ≡ false → all is_hex_digit (drop i l) ≡ false
  unfolding all
  hex_not e = ap (all is_hex_digit) (from l i h) ∙ rw e

  pub hex_next : is_hex_digit (get_or l i 0) ≡ true → all is_hex_digit (drop i l) ≡ all is_hex_digit (drop (i + 1) l)
  unfolding all
  hex_next e = ap (all is_hex_digit) (from l i h) ∙ rw e

-- what HEX has
pub record Hex (ds : List ℕ) : Type 0 where
  pub long : length ds ≤ 131070
  pub even : length ds % 2 ≡ 0
  pub digits : (k : ℕ) → k < length ds → hex_value (get_or ds k 0) < 16

all_at : (l : List ℕ) → all is_hex_digit l ≡ true → (k : ℕ) → k < length l → hex_value (get_or l k 0) < 16
unfolding all is_hex_digit
all_at [] e k h = absurd (omega arith)
all_at (x ∷ l) e zero h = ltb-true (hex_value x) 16 ((and-eq-true_iff (ltb (hex_value x) 16) (all is_hex_digit l)).0 e).0
all_at (x ∷ l) e (suc k) h = all_at l ((and-eq-true_iff (ltb (hex_value x) 16) (all is_hex_digit l)).0 e).1 k (omega arith)

pub is_hex_lem : (ds : List ℕ) → is_hex ds ≡ true → Hex ds
unfolding is_hex
is_hex_lem ds e = go (leb (length ds) 131070) (eqb (length ds % 2) 0) refl refl e
  where
    go : (a b : Bool) → leb (length ds) 131070 ≡ a → eqb (length ds % 2) 0 ≡ b → a && (b && all is_hex_digit ds) ≡ true → Hex ds
    go true true p q r = record { long = leb-true (length ds) 131070 p; even = eqb-true (length ds % 2) 0 q; digits = all_at ds r }
    go true false p q r = absurd (let z : ◌≡◌ {A = ℕ} 0 1 = cc in omega arith)
    go false b p q r = absurd (let z : ◌≡◌ {A = ℕ} 0 1 = cc in omega arith)

-- ---- the bytes of HEX

-- i bytes were put
pub record Half (ds b₀ b : List ℕ) (i : ℕ) : Type 0 where
  pub long : length b ≡ length b₀
  pub within : i ≤ length b₀
  pub same : take i b ++ bytes_of (drop (2 * i) ds) ≡ bytes_of ds

pub half_none : (ds b₀ : List ℕ) → Half ds b₀ b₀ 0
half_none ds b₀ = record { long = refl; within = omega arith; same = refl }

module _ (ds b₀ b : List ℕ) (i : ℕ) (m : Half ds b₀ b i) (h : i < length b₀) (even : length b₀ * 2 ≡ length ds) where
  abbrev here : ℕ
  here = hex_value (get_or ds (2 * i) 0) * 16 + hex_value (get_or ds (2 * i + 1) 0)

  two_digits : drop (2 * i) ds ≡ get_or ds (2 * i) 0 ∷ (get_or ds (2 * i + 1) 0 ∷ drop (2 * (i + 1)) ds)
  two_digits =
      let e : 2 * i + 1 + 1 ≡ 2 * (i + 1) = omega arith in
      from ds (2 * i) (omega arith)
      ∙ ap (λ (l : List ℕ). get_or ds (2 * i) 0 ∷ l) (from ds (2 * i + 1) (omega arith) ∙ ap (λ (k : ℕ). get_or ds (2 * i + 1) 0 ∷ drop k ds) e)

  pub half_next : Half ds b₀ (set b i here) (i + 1)
  unfolding bytes_of
  half_next =
      record {
        long = length-set b i here ∙ m.long;
        within = omega arith;
        same =
            ap (λ (l : List ℕ). l ++ bytes_of (drop (2 * (i + 1)) ds)) (ap (λ (k : ℕ). take k (set b i here)) (add-one i) ∙ take-suc-set b i here (omega (arith, m.long)))
            ∙ (append_assoc (take i b) (here ∷ []) (bytes_of (drop (2 * (i + 1)) ds))
            ∙ (ap (λ (l : List ℕ). take i b ++ bytes_of l) (sym two_digits) ∙ m.same));
      }

pub half_all : (ds b₀ b : List ℕ) (i : ℕ) → Half ds b₀ b i → length b ≤ i → length b₀ * 2 ≡ length ds → b ≡ bytes_of ds
unfolding bytes_of
half_all ds b₀ b i m h even =
    let k : length ds ≤ 2 * i = omega (arith, m.long) in
    let z : drop (2 * i) ds ≡ [] = drop_of_length-le ds k in
    sym (append-nil b) ∙ (ap₂ (λ (x y : List ℕ). x ++ bytes_of y) (sym (take_all i b h)) (sym z) ∙ m.same)

-- ---- NUMBER TAB HEX

-- what stands behind the TAB, as a part up to the end
pub rest_all : (l : List ℕ) (k : ℕ) → take (length l - k) (drop k l) ≡ drop k l
rest_all l k = take_all (length l - k) (drop k l) (omega (arith, length-drop k l))

module _ (l : List ℕ) (tab : ℕ) (e : tab ≡ tab_at l) where
  pub line_no_tab : length l ≤ tab → false ≡ is_line l
  unfolding is_line
  line_no_tab h = rw (← e) (rw (le-ltb tab (length l) h))

  pub line_no_number : tab < length l → is_number (take tab l) ≡ false → false ≡ is_line l
  unfolding is_line
  line_no_number h n = rw (← e) (rw (lt-ltb tab (length l) h, n))

  pub line_hex : tab < length l → is_number (take tab l) ≡ true → is_hex (take (length l - (tab + 1)) (drop (tab + 1) l)) ≡ is_line l
  unfolding is_line
  line_hex h n = rw (← e) (rw (lt-ltb tab (length l) h, n) (ap is_hex (rest_all l (tab + 1))))

-- what a line has
pub record Formed (l : List ℕ) (tab : ℕ) : Type 0 where
  pub inside : tab < length l
  pub short : tab ≤ 10
  pub hex : is_hex (take (length l - (tab + 1)) (drop (tab + 1) l)) ≡ true
  pub pairs : length (take (length l - (tab + 1)) (drop (tab + 1) l)) / 2 * 2 ≡ length (take (length l - (tab + 1)) (drop (tab + 1) l))
  pub few : length (take (length l - (tab + 1)) (drop (tab + 1) l)) / 2 ≤ 65535

number_short : (ds : List ℕ) → is_number ds ≡ true → length ds ≤ 10
unfolding is_number
number_short ds e = go (leb 1 (length ds)) (leb (length ds) 10) refl e
  where
    go : (a b : Bool) → leb (length ds) 10 ≡ b → a && (b && (all is_decimal ds && leb (value_from 0 ds) 0xFFFFFFFF)) ≡ true → length ds ≤ 10
    go true true p q = leb-true (length ds) 10 p
    go true false p q = absurd (let z : ◌≡◌ {A = ℕ} 0 1 = cc in omega arith)
    go false b p q = absurd (let z : ◌≡◌ {A = ℕ} 0 1 = cc in omega arith)

pub formed : (l : List ℕ) (tab : ℕ) → tab ≡ tab_at l → is_line l ≡ true → Formed l tab
unfolding is_line
formed l tab e h = go (ltb tab (length l)) (is_number (take tab l)) refl refl (rw (← e) at h)
  where
    go : (a b : Bool) → ltb tab (length l) ≡ a → is_number (take tab l) ≡ b → a && (b && is_hex (drop (tab + 1) l)) ≡ true → Formed l tab
    go true true p q r =
        let i : tab < length l = ltb-true tab (length l) p in
        let x : is_hex (take (length l - (tab + 1)) (drop (tab + 1) l)) ≡ true = ap is_hex (rest_all l (tab + 1)) ∙ r in
        let d = is_hex_lem (take (length l - (tab + 1)) (drop (tab + 1) l)) x in
        record {
          inside = i;
          short = omega (arith, number_short (take tab l) q, length-take-le tab l (omega arith));
          hex = x;
          pairs = omega (arith, d.even);
          few = omega (arith, d.long);
        }
    go true false p q r = absurd (let z : ◌≡◌ {A = ℕ} 0 1 = cc in omega arith)
    go false b p q r = absurd (let z : ◌≡◌ {A = ℕ} 0 1 = cc in omega arith)
