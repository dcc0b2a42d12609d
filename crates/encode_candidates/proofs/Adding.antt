-- What the functions that add candidates give, one after the other. Assumes nothing.
use mathlib.Core.Path.{◌≡◌, refl, sym, ap, ◌∙◌}
use mathlib.Core.List.{List, [], ◌∷◌, ◌++◌, append-nil, append_assoc}
use mathlib.Core.Option.{Option, none, some}
use Prim.Native.Nat.{ℕ, ◌+◌, ◌*◌, ◌/◌, ◌%◌, ◌<◌, ◌≤◌}
use native.Mathlib.Omega.{arith}
use lib.ListN.{length, length-append}
use Rattle.std.proofs.lemmas.List.{map-append}
use borrow.Author.Tests.{lt-ltb, le-ltb, ne_eqb}
use Rattle.tables_reverse.specs.Reverse.{kanji_reverse, additional_reverse}
use Rattle.tables_reverse.proofs.Laws.{kanji_found, additional_found}
use Rattle.coding.specs.Candidates.{Size, Cand, graphic, of_place}
use Rattle.encode_states.specs.Packed.{set_of}
use Rattle.encode_candidates.specs.declared.candidate.Candidate.{Candidate}
use Rattle.encode_candidates.specs.Packed.{packed, code_of, cand_of, cand, cands_of, Adds, AddsCell}

-- ---- one more, none, and one after the other

pub one_more : (k r : List Candidate) (c : Candidate) → r ≡ k ++ (c ∷ []) → Adds k (cand c ∷ []) 1 r
one_more k r c e =
    record {
      list = ap cands_of e ∙ map-append cand k (c ∷ []);
      count = omega (arith, ap length e, length-append k (c ∷ []));
    }

pub none_more : (k : List Candidate) (n : ℕ) → Adds k [] n k
none_more k n = record { list = sym (append-nil (cands_of k)); count = omega arith }

pub then : {k r s : List Candidate} {l m : List Cand} {n p : ℕ} → Adds k l n r → Adds r m p s → Adds k (l ++ m) (n + p) s
then {k = k} {l = l} {m = m} a b =
    record {
      list = b.list ∙ ap (λ (y : List Cand). y ++ m) a.list ∙ append_assoc (cands_of k) l m;
      count = omega (arith, a.count, b.count);
    }

-- the same candidates in other words
pub likewise : {k r : List Candidate} {l m : List Cand} {n : ℕ} → Adds k l n r → l ≡ m → Adds k m n r
likewise {k = k} a e = record { list = a.list ∙ ap (λ (y : List Cand). cands_of k ++ y) e; count = a.count }

-- ---- a code of a one-byte set

pub byte_cand : (x b : ℕ) (z : Size) → x < 6 → b ≤ 0x7E → cand_of x b z ≡ graphic (set_of x) (b ∷ []) z
unfolding cand_of code_of
byte_cand x b z p q = let l : b < 256 = omega arith in rw (ne_eqb x 7 (λ e. omega arith), lt-ltb b 256 l)

-- ---- a cell

-- the number of a code with the bytes a and b
abbrev pub bytes : ℕ → ℕ → ℕ
bytes a b = a * 256 + b

-- the code of a cell, as `with_cell` makes it
abbrev pub code_at : ℕ → ℕ
code_at cell = bytes ((cell / 256 + 0x20) % 128) ((cell % 256 + 0x20) % 128)

first_byte : (a b : ℕ) → b < 256 → bytes a b / 256 ≡ a
first_byte a b h = omega arith

last_byte : (a b : ℕ) → b < 256 → bytes a b % 256 ≡ b
last_byte a b h = omega arith

plus_32 : (a : ℕ) → a ≤ 94 → (a + 0x20) % 128 ≡ 0x20 + a
plus_32 a h = omega arith

code_at_lem : (a b : ℕ) → a ≤ 94 → b ≤ 94 → code_at (bytes a b) ≡ bytes (0x20 + a) (0x20 + b)
code_at_lem a b p q =
    let h : b < 256 = omega arith in
    rw (first_byte a b h, last_byte a b h, plus_32 a p, plus_32 b q)

bytes_cand : (x a b : ℕ) (z : Size) → x < 6 → 1 ≤ a → b < 256 → cand_of x (bytes a b) z ≡ graphic (set_of x) (a ∷ b ∷ []) z
unfolding cand_of code_of
bytes_cand x a b z p q h =
    let l : 256 ≤ bytes a b = omega arith in
    rw (ne_eqb x 7 (λ e. omega arith), le-ltb (bytes a b) 256 l, first_byte a b h, last_byte a b h)

-- what is added for a cell
pub cell_adds : {k r : List Candidate} (x : ℕ) (z : Size) (cell : ℕ) → x < 6 → (cell ≡ 0 → ⊥) → Adds k (cand_of x (code_at cell) z ∷ []) 1 r → AddsCell k x z cell r
unfolding of_place
cell_adds {k = k} x z cell p n d =
    record {
      nowhere = λ e. absurd (n e);
      there = λ a b h i j e.
          let w : cand_of x (code_at cell) z ≡ graphic (set_of x) ((0x20 + a) ∷ (0x20 + b) ∷ []) z
          = ap (λ (m : ℕ). cand_of x m z) (ap code_at e ∙ code_at_lem a b i j) ∙ bytes_cand x (0x20 + a) (0x20 + b) z p (omega arith) (omega arith) in
          d.list ∙ ap (λ (y : Cand). cands_of k ++ (y ∷ [])) w;
      count = d.count;
    }

pub no_cell_adds : (k : List Candidate) (x : ℕ) (z : Size) (cell : ℕ) → cell ≡ 0 → AddsCell k x z cell k
no_cell_adds k x z cell e = record { nowhere = λ e. refl; there = λ a b h i j q. absurd (omega arith); count = omega arith }

-- rows and cells from 1 to 94
unfoldable pub OnGrid : Option (ℕ × ℕ) → Type 0
OnGrid none = Unit {0}
OnGrid (some (a, b)) = (1 ≤ a) × (a ≤ 94) × (b ≤ 94)

pub cell_more : {k r : List Candidate} {set cell : ℕ} {z : Size} → AddsCell k set z cell r → (p : Option (ℕ × ℕ)) → OnGrid p → cell ≡ packed p → Adds k (of_place (set_of set) z p) 1 r
unfolding OnGrid packed of_place
cell_more {k = k} a none g e = record { list = a.nowhere e ∙ sym (append-nil (cands_of k)); count = a.count }
cell_more a (some (x, y)) g e = record { list = a.there x y g.0 g.1 g.2 e; count = a.count }

-- the cells that the reverse look-ups find
pub kanji_grid : (cells : List ℕ) (c : ℕ) → OnGrid (kanji_reverse cells c)
unfolding OnGrid
kanji_grid cells c = go (kanji_reverse cells c) refl
  where
    go : (p : Option (ℕ × ℕ)) → kanji_reverse cells c ≡ p → OnGrid p
    go none e = tt
    go (some (a, b)) e = let f = kanji_found cells c a b e in (f.row_from, f.row_to, f.cell_to)

pub symbol_grid : (c : ℕ) → OnGrid (additional_reverse c)
unfolding OnGrid
symbol_grid c = go (additional_reverse c) refl
  where
    go : (p : Option (ℕ × ℕ)) → additional_reverse c ≡ p → OnGrid p
    go none e = tt
    go (some (a, b)) e = let f = additional_found c a b e in (f.row_from, f.row_to, f.cell_to)

-- ---- the empty list

-- what is added to it is all that there is
pub alone : {k : List Candidate} {l : List Cand} {n : ℕ} {r : List Candidate} → k ≡ [] → Adds k l n r → cands_of r ≡ l
alone {l = l} e a = a.list ∙ ap (λ (k : List Candidate). cands_of k ++ l) e
