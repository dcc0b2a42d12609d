-- The 658 places of the tables, row by row: a place's row and cell, the table's rule there, and what lies outside.
-- Assumes nothing.
use mathlib.Core.Path.{◌≡◌, refl, ap, sym, ◌∙◌}
use mathlib.Core.Bool.{Bool, true, false}
use mathlib.Core.List.{List, [], ◌∷◌}
use Prim.Native.Nat.{ℕ, zero, suc, ◌+◌, ◌-◌, ◌*◌, ◌/◌, ◌%◌, ◌<◌, ◌≤◌}
use native.Mathlib.Nat.{add-zero, zero-add, add-suc, suc-add, not-suc-le-zero, le_of_suc-le-suc}
use native.Mathlib.Omega.{arith}
use lib.Dec.{eqb, ltb, leb, leb→le}
use lib.ListN.{length, get_or, get_or-eq_default}
use borrow.Author.Tests.{eqb-true, ltb-true, ltb-false}
use Rattle.base.proofs.Table.{at}
use Rattle.addsym.specs.Table719.{numbers, rows}
use Rattle.addsym.specs.Symbols.{place_in, row_place, table719, symbol, FoundReads}
use Rattle.std.specs.Prelude.{Some}

-- the row and the cell of a place
abbrev pub row_at : ℕ → ℕ
row_at k = get_or numbers (k / 94) 0

abbrev pub cell_at : ℕ → ℕ
cell_at k = k % 94 + 1

-- the values of f at n places from k on
abbrev list : (ℕ → ℕ) → ℕ → ℕ → List ℕ
list f k zero = []
list f k (suc n) = f k ∷ list f (suc k) n

listed : (f : ℕ → ℕ) (k n i : ℕ) → i < n → get_or (list f k n) i 0 ≡ f (k + i)
listed f k zero i h = absurd (not-suc-le-zero h)
listed f k (suc n) zero h = ap f (sym (add-zero k))
listed f k (suc n) (suc i) h = listed f (suc k) n i (le_of_suc-le-suc h) ∙ ap f (suc-add k i ∙ sym (add-suc k i))

-- the values of a rule at all the places
abbrev pub values : (ℕ → ℕ → ℕ) → List ℕ
values f = list (λ k. f (row_at k) (cell_at k)) 0 658

-- the values of a rule at the 94 cells of a row
abbrev pub row_of : (ℕ → ℕ) → List ℕ
row_of f = list (λ k. f (k + 1)) 0 94

pub in_row : (f : ℕ → ℕ) (cell : ℕ) → 0 < cell → cell ≤ 94 → get_or (row_of f) (cell - 1) 0 ≡ f cell
in_row f cell h0 h1 =
    let e : 0 + (cell - 1) + 1 ≡ cell = omega arith in
    listed (λ k. f (k + 1)) 0 94 (cell - 1) (omega arith) ∙ ap f e

-- a number that is in a list stands at its place
in_place : (xs : List ℕ) (n : ℕ) → place_in xs n < length xs → get_or xs (place_in xs n) 0 ≡ n
unfolding place_in
in_place [] n h = absurd (not-suc-le-zero h)
in_place (x ∷ xs) n h = go (eqb n x) refl (in_place xs n)
  where
    go : (b : Bool) → eqb n x ≡ b → (place_in xs n < length xs → get_or xs (place_in xs n) 0 ≡ n) → get_or (x ∷ xs) (place_in (x ∷ xs) n) 0 ≡ n
    go true e f = rw (e, place_in) (sym (eqb-true n x e))
    go false e f = rw (e, place_in) (f (le_of_suc-le-suc (rw (e, place_in) at h)))

module _ (row cell p : ℕ) (e : p ≡ row_place row) (hp : p < 7) (h0 : 0 < cell) (h1 : cell ≤ 94) where
  row_of_lem : row_at (p * 94 + cell - 1) ≡ row
  unfolding row_place
  row_of_lem =
      let d : (p * 94 + cell - 1) / 94 ≡ row_place row = omega arith in
      rw d (in_place numbers row (omega arith))

  cell_of : cell_at (p * 94 + cell - 1) ≡ cell
  cell_of = omega arith

  -- the list of a rule's values has the rule's value at each row and cell
  pub entry : (f : ℕ → ℕ → ℕ) → get_or (values f) (p * 94 + cell - 1) 0 ≡ f row cell
  entry f = listed (λ k. f (row_at k) (cell_at k)) 0 658 (p * 94 + cell - 1) (omega arith) ∙ (rw (zero-add, row_of_lem, cell_of))

-- outside the rows and the cells Table 7-19 is blank
alone : (cell : ℕ) → ◌≡◌ {A = ℕ} (get_or (0 ∷ []) cell 0) 0
alone zero = refl
alone (suc n) = refl

pub no_row : (row cell p : ℕ) → p ≡ row_place row → 7 ≤ p → table719 row cell ≡ 0
unfolding table719
no_row row cell p e h =
    ap (λ (r : List ℕ). get_or (0 ∷ r) cell 0) (get_or-eq_default rows [] {n = row_place row} (omega arith)) ∙ alone cell

pub no_cell : (row cell : ℕ) → cell ≡ 0 → table719 row cell ≡ 0
unfolding table719
no_cell row cell e = ap (table719 row) e

at_most : ℕ → List ℕ → Bool
at_most k r = leb (length r) 94

-- no row has more than 94 cells
short : (p : ℕ) → length (get_or rows p []) ≤ 94
unfolding at_most
short p = go (ltb p 7) refl
  where
    go : (b : Bool) → ltb p 7 ≡ b → length (get_or rows p []) ≤ 94
    go true e = leb→le _ _ (at [] at_most rows tt p (ltb-true p 7 e))
    go false e = rw (get_or-eq_default rows [] (ltb-false p 7 e)) (omega arith)

pub past_cells : (row cell : ℕ) → 94 < cell → table719 row cell ≡ 0
unfolding table719
past_cells row cell h =
    get_or-eq_default (0 ∷ get_or rows (row_place row) []) 0 {n = cell} (omega (arith, short (row_place row)))

-- the answer for a value of Table 7-19 and a scalar
pub found : (row cell t u : ℕ) → t ≡ table719 row cell → u ≡ symbol row cell → (t ≡ 0 → ⊥) → FoundReads
    (Some (record { row = row; cell = cell; table_7_19 = t; unicode = u })) row cell
found row cell t u e f h = ((λ i. record { row = row; cell = cell; table_7_19 = e i; unicode = f i }), omega (arith, e, h))
