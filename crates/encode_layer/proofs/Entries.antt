-- The nodes of a part of the store: how many, which, and after one is written. Assumes nothing.
use mathlib.Core.Path.{◌≡◌, refl, sym, ap, ◌∙◌}
use mathlib.Core.List.{List, [], ◌∷◌}
use Prim.Native.Nat.{ℕ, zero, suc, ◌+◌, ◌-◌, ◌*◌, ◌/◌, ◌≤◌, ◌<◌}
use native.Mathlib.Nat.{zero-add}
use native.Mathlib.Omega.{arith}
use lib.ListN.{length, get_or, set, take, drop, length-set, length-drop}
use lib.Seq.{take-nil, length-take-le, get_or-take, get_or-drop, get_or-set_other, take-set-le, drop-drop}
use Rattle.encode_layer.specs.declared.Entry.{Entry}
use Rattle.encode_layer.specs.Entries.{entry, entries, entries_of, entry_at, set_entry}

four : ℕ → ℕ
four zero = 0
four (suc n) = suc (suc (suc (suc (four n))))

four_is : (n : ℕ) → four n ≡ n * 4
unfolding four
four_is zero = refl
four_is (suc n) = let e = four_is n in omega arith

pub length_entries : (s : List ℕ) → length (entries s) ≡ length s / 4
unfolding entries
length_entries [] = refl
length_entries (a ∷ []) = refl
length_entries (a ∷ b ∷ []) = refl
length_entries (a ∷ b ∷ c ∷ []) = refl
length_entries (a ∷ b ∷ c ∷ d ∷ xs) = let e = length_entries xs in omega arith

at_four : (s : List ℕ) (i : ℕ) (z : Entry) → four i + 3 < length s → get_or (entries s) i z ≡ entry (get_or s (four i) 0) (get_or s (suc (four i)) 0) (get_or s (suc (suc (four i))) 0)
unfolding entries four
at_four [] i z h = absurd (omega arith)
at_four (a ∷ []) i z h = absurd (omega arith)
at_four (a ∷ b ∷ []) i z h = absurd (omega arith)
at_four (a ∷ b ∷ c ∷ []) i z h = absurd (omega arith)
at_four (a ∷ b ∷ c ∷ d ∷ xs) zero z h = refl
at_four (a ∷ b ∷ c ∷ d ∷ xs) (suc i) z h = at_four xs i z (omega arith)

set_four : (s : List ℕ) (i a b c : ℕ) → four i + 3 < length s →
    entries (set (set (set s (four i) a) (suc (four i)) b) (suc (suc (four i))) c) ≡ set (entries s) i (entry a b c)
unfolding entries four
set_four [] i a b c h = absurd (omega arith)
set_four (x ∷ []) i a b c h = absurd (omega arith)
set_four (x ∷ y ∷ []) i a b c h = absurd (omega arith)
set_four (x ∷ y ∷ z ∷ []) i a b c h = absurd (omega arith)
set_four (x ∷ y ∷ z ∷ w ∷ xs) zero a b c h = refl
set_four (x ∷ y ∷ z ∷ w ∷ xs) (suc i) a b c h = ap (λ (l : List Entry). entry x y z ∷ l) (set_four xs i a b c (omega arith))

-- the fourth number of a node is not the node's
chain_four : (s : List ℕ) (i x : ℕ) → four i + 3 < length s → entries (set s (suc (suc (suc (four i)))) x) ≡ entries s
unfolding entries four
chain_four [] i x h = absurd (omega arith)
chain_four (a ∷ []) i x h = absurd (omega arith)
chain_four (a ∷ b ∷ []) i x h = absurd (omega arith)
chain_four (a ∷ b ∷ c ∷ []) i x h = absurd (omega arith)
chain_four (a ∷ b ∷ c ∷ d ∷ xs) zero x h = refl
chain_four (a ∷ b ∷ c ∷ d ∷ xs) (suc i) x h = ap (λ (l : List Entry). entry a b c ∷ l) (chain_four xs i x (omega arith))

-- the same at the code's places
module _ (s : List ℕ) (i : ℕ) (h : i * 4 + 4 ≤ length s) where
  e0 : i * 4 ≡ four i
  e0 = sym (four_is i)

  e1 : i * 4 + 1 ≡ suc (four i)
  e1 = let q = four_is i in omega arith

  e2 : i * 4 + 2 ≡ suc (suc (four i))
  e2 = let q = four_is i in omega arith

  e3 : i * 4 + 3 ≡ suc (suc (suc (four i)))
  e3 = let q = four_is i in omega arith

  pub entries_at : (z : Entry) → get_or (entries s) i z ≡ entry_at s i
  entries_at z = rw (e2, e1, e0) (at_four s i z (let q = four_is i in omega arith))

  pub entries_set : (e : Entry) → entries (set_entry s (i * 4) e) ≡ set (entries s) i e
  entries_set e = rw (e2, e1, e0) (set_four s i e.state e.cost e.link (let q = four_is i in omega arith))

  pub entries_chain : (x : ℕ) → entries (set s (i * 4 + 3) x) ≡ entries s
  entries_chain x = rw e3 (chain_four s i x (let q = four_is i in omega arith))

pub length_set_entry : (s : List ℕ) (at : ℕ) (e : Entry) → length (set_entry s at e) ≡ length s
length_set_entry s at e = simp length-set

-- a number that is none of a node's, where the node is written, and the fourth numbers so
pub other_set : (s : List ℕ) (at k : ℕ) (e : Entry) → (k ≡ at → ⊥) → (k ≡ at + 1 → ⊥) → (k ≡ at + 2 → ⊥) → get_or (set_entry s at e) k 0 ≡ get_or s k 0
other_set s at k e n0 n1 n2 =
    get_or-set_other (set (set s at e.state) (at + 1) e.cost) (at + 2) k e.link 0 n2 ∙
    (get_or-set_other (set s at e.state) (at + 1) k e.cost 0 n1 ∙ get_or-set_other s at k e.state 0 n0)

pub chain_set : (s : List ℕ) (p v : ℕ) (e : Entry) → get_or (set_entry s (p * 4) e) (v * 4 + 3) 0 ≡ get_or s (v * 4 + 3) 0
chain_set s p v e = other_set s (p * 4) (v * 4 + 3) e (λ q. omega arith) (λ q. omega arith) (λ q. omega arith)

-- the nodes before a place where a node is written
pub before_set : (s : List ℕ) (n p : ℕ) (e : Entry) → p * 4 + 4 ≤ length s → n ≤ p → entries_of (set_entry s (p * 4) e) 0 n ≡ entries_of s 0 n
unfolding entries_of
before_set s n p e h k = rw (entries_set s p h e) (take-set-le n (entries s) p e k)

-- a layer's nodes
module _ (s : List ℕ) (from count : ℕ) (fits : (from + count) * 4 ≤ length s) where
  pub length_of_lem : length (entries_of s from count) ≡ count
  unfolding entries_of
  length_of_lem = let e = length_entries s in length-take-le count (drop from (entries s)) (rw length-drop (omega arith))

  pub entry_of : (i : ℕ) (z : Entry) → i < count → get_or (entries_of s from count) i z ≡ entry_at s (from + i)
  unfolding entries_of
  entry_of i z h = rw (get_or-take, get_or-drop) (entries_at s (from + i) (omega arith) z)

-- those with which a part begins
pub entry_first : (s : List ℕ) (count : ℕ) → count * 4 ≤ length s → (i : ℕ) (z : Entry) → i < count → get_or (entries_of s 0 count) i z ≡ entry_at s i
entry_first s count fits i z h = entry_of s 0 count (omega arith) i z h ∙ ap (entry_at s) (zero-add i)

-- the nodes from a place on are those of the numbers from there on
drop_four : (s : List ℕ) (n : ℕ) → drop n (entries s) ≡ entries (drop (four n) s)
unfolding entries four
drop_four [] zero = refl
drop_four [] (suc n) = refl
drop_four (a ∷ []) zero = refl
drop_four (a ∷ []) (suc n) = refl
drop_four (a ∷ b ∷ []) zero = refl
drop_four (a ∷ b ∷ []) (suc n) = refl
drop_four (a ∷ b ∷ c ∷ []) zero = refl
drop_four (a ∷ b ∷ c ∷ []) (suc n) = refl
drop_four (a ∷ b ∷ c ∷ d ∷ xs) zero = refl
drop_four (a ∷ b ∷ c ∷ d ∷ xs) (suc n) = drop_four xs n

pub drop_entries : (s : List ℕ) (n : ℕ) → drop n (entries s) ≡ entries (drop (n * 4) s)
drop_entries s n = rw (← four_is n) (drop_four s n)

-- they are those of any part that has the same numbers there
pub same_entries : (s s' : List ℕ) (m from count : ℕ) → m ≤ from * 4 → drop m s' ≡ drop m s → entries_of s' from count ≡ entries_of s from count
unfolding entries_of
same_entries s s' m from count h e =
    let q : m + (from * 4 - m) ≡ from * 4 = omega arith in
    let d : drop (from * 4) s' ≡ drop (from * 4) s = sym (ap (λ (k : ℕ). drop k s') q) ∙ (sym (drop-drop (from * 4 - m) m s') ∙
    (ap (drop (from * 4 - m)) e ∙ (drop-drop (from * 4 - m) m s ∙ ap (λ (k : ℕ). drop k s) q))) in
    ap (take count) (drop_entries s' from ∙ (ap entries d ∙ sym (drop_entries s from)))

-- those behind the first i of a layer
take_drop : (i c : ℕ) (l : List Entry) → drop i (take (i + c) l) ≡ take c (drop i l)
take_drop zero c l = let e : 0 + c ≡ c = omega arith in ap (λ (k : ℕ). take k l) e
take_drop (suc i) c [] = let e : suc i + c ≡ suc (i + c) = omega arith in rw (take-nil c, e)
take_drop (suc i) c (x ∷ xs) = let e : suc i + c ≡ suc (i + c) = omega arith in rw e (take_drop i c xs)

pub entries_behind : (s : List ℕ) (from count i : ℕ) → count ≡ i + (count - i) → drop i (entries_of s from count) ≡ entries_of s (from + i) (count - i)
unfolding entries_of
entries_behind s from count i e =
    ap (λ (k : ℕ). drop i (take k (drop from (entries s)))) e ∙ (take_drop i (count - i) (drop from (entries s)) ∙ ap (take (count - i)) (drop-drop i from (entries s)))
