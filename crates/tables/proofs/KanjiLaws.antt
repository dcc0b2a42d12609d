-- What `kanji_at` reads in each stretch of rows. Assumes nothing.
use mathlib.Core.Path.{◌≡◌, refl, ◌∙◌}
use mathlib.Core.Bool.{Bool, true, false, false≢true, cond, ◌&&◌}
use mathlib.Core.List.{List, [], ◌∷◌}
use Prim.Native.Nat.{ℕ, ◌<◌, ◌≤◌}
use native.Mathlib.Omega.{arith}
use lib.Dec.{eqb, leb, ltb}
use lib.ListN.{get_or}
use borrow.Author.Tests.{le-leb, lt-leb, ne_eqb, leb-true, ltb-true, ltb-false}
use Rattle.std.specs.Prelude.{Option, Some, unwrap_or, option_map, find}
use Rattle.tables.specs.Kanji.{non_spacing, kanji_overrides, assigned, place, table_at, kanji_symbol, kanji_of, kanji_at}
use Rattle.tables.specs.declared.Assignment.{Assignment}

-- on the grid the table is read at the cell's place
pub on_grid_lem : (t : List ℕ) (row cell : ℕ) → 1 ≤ row → row ≤ 94 → 1 ≤ cell → cell ≤ 94 → table_at t row cell ≡ get_or t (place row cell) 0
unfolding table_at
on_grid_lem t row cell a b c d = rw (le-leb 1 row a, le-leb row 94 b, le-leb 1 cell c, le-leb cell 94 d)

-- and off the grid there is none
pub off_grid : (t : List ℕ) (row cell : ℕ) → (1 ≤ row → row ≤ 94 → 1 ≤ cell → cell ≤ 94 → ⊥) → table_at t row cell ≡ 0
unfolding table_at
off_grid t row cell n = go (leb 1 row) (leb row 94) (leb 1 cell) (leb cell 94) refl refl refl refl
  where
    go : (a b d e : Bool) → leb 1 row ≡ a → leb row 94 ≡ b → leb 1 cell ≡ d → leb cell 94 ≡ e → cond (a && b && d && e) (get_or t (place row cell) 0) 0 ≡ 0
    go true true true true p q r s = absurd (n (leb-true 1 row p) (leb-true row 94 q) (leb-true 1 cell r) (leb-true cell 94 s))
    go true true true false p q r s = refl
    go true true false e p q r s = refl
    go true false d e p q r s = refl
    go false b d e p q r s = refl

module _ (row cell : ℕ) (h : 3 ≤ row) where
  not_1 : 1 ≡ row → ⊥
  not_1 e = omega arith

  not_2 : 2 ≡ row → ⊥
  not_2 e = omega arith

  -- marks and overrides are in rows 1 and 2
  no_mark : (x : ℕ) → assigned non_spacing row cell x ≡ x
  unfolding assigned
  no_mark x = rw (ne_eqb 1 row not_1, ne_eqb 2 row not_2)

  no_override : (x : ℕ) → assigned kanji_overrides row cell x ≡ x
  unfolding assigned
  no_override x = rw (ne_eqb 1 row not_1, ne_eqb 2 row not_2)

-- what a search for the cell found, or the number below
abbrev found_or : ℕ → Option Assignment → ℕ
found_or x o = unwrap_or (option_map (λ (a : Assignment). a.character) o) x

pub assigned_find : (list : List Assignment) (row cell x : ℕ)
    → unwrap_or (option_map (λ (a : Assignment). a.character) (find (λ (a : Assignment). eqb a.row row && eqb a.cell cell) list)) x ≡ assigned list row cell x
unfolding assigned
assigned_find [] row cell x = refl
assigned_find (a ∷ more) row cell x = go (eqb a.row row && eqb a.cell cell) _ (assigned_find more row cell x)
  where
    go : (b : Bool) (o : Option Assignment) → found_or x o ≡ assigned more row cell x → found_or x (cond b (Some a) o) ≡ cond b a.character (assigned more row cell x)
    go true o e = refl
    go false o e = e

-- rows 1 and 2
pub rows_1_2 : (row cell x : ℕ) → row < 3 → kanji_of row cell x ≡ assigned non_spacing row cell (assigned kanji_overrides row cell x)
unfolding kanji_of
rows_1_2 row cell x h = let q : row < 90 = omega arith in rw (lt-leb 90 row q, kanji_of)

-- rows 3 to 89
pub rows_3_89 : (row cell x : ℕ) → 3 ≤ row → row < 90 → kanji_of row cell x ≡ x
unfolding kanji_of
rows_3_89 row cell x h b = rw (lt-leb 90 row b, kanji_of) (no_mark row cell h _ ∙ no_override row cell h x)

-- rows 90 to 94
pub rows_90_94 : (row cell x : ℕ) → 90 ≤ row → row ≤ 94 → kanji_of row cell x ≡ kanji_symbol row cell
unfolding kanji_of
rows_90_94 row cell x a b = rw (le-leb 90 row a, le-leb row 94 b, kanji_of) (no_mark row cell (omega arith) _)

-- past row 94
pub past_rows : (t : List ℕ) (row cell : ℕ) → 94 < row → kanji_at t row cell ≡ 0
unfolding kanji_at kanji_of
past_rows t row cell h =
    let a : 90 ≤ row = omega arith in
    let b : 3 ≤ row = omega arith in
    rw (le-leb 90 row a, lt-leb row 94 h, kanji_of) (no_mark row cell b _ ∙ no_override row cell b _ ∙ off_grid t row cell (λ p q r s. omega arith))

-- where the table alone decides
pub table_row : (t : List ℕ) (row cell : ℕ) → (leb 3 row && ltb row 90) ≡ true → kanji_at t row cell ≡ table_at t row cell
unfolding kanji_at
table_row t row cell e = go (leb 3 row) (ltb row 90) refl refl e
  where
    go : (a b : Bool) → leb 3 row ≡ a → ltb row 90 ≡ b → (a && b) ≡ true → kanji_of row cell (table_at t row cell) ≡ table_at t row cell
    go true true p q z = rows_3_89 row cell (table_at t row cell) (leb-true 3 row p) (ltb-true row 90 q)
    go true false p q z = absurd (false≢true z)
    go false b p q z = absurd (false≢true z)

-- and where it does not, rows 90 on follow row 2
pub past_table : (row : ℕ) → (leb 3 row && ltb row 90) ≡ false → 3 ≤ row → 90 ≤ row
past_table row e h = ltb-false row 90 (rw (le-leb 3 row h) at e)
