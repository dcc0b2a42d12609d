-- A list of the seven rows, read at a row and a cell; the lists of all the symbols and of Table 7-19. Assumes nothing.
use mathlib.Core.Path.{◌≡◌, refl, sym, ◌∙◌}
use mathlib.Core.Bool.{Bool, true, false, cond, ◌&&◌}
use mathlib.Core.List.{List}
use Prim.Native.Nat.{ℕ, ◌+◌, ◌*◌, ◌-◌, ◌<◌, ◌≤◌}
use native.Mathlib.Omega.{arith}
use lib.Dec.{ltb, leb}
use lib.ListN.{get_or}
use borrow.Author.Tests.{lt-ltb, le-leb, ltb-true, ltb-false, leb-true, leb-false}
use Rattle.addsym.specs.Symbols.{row_place, table719, symbol, cell_in, SymbolsIn}
use Rattle.addsym.proofs.Places.{values, entry, no_row, no_cell, past_cells}
use Rattle.addsym.proofs.Laws.{blank_symbol}

module _ (cells : List ℕ) (row cell : ℕ) where
  pub in_cells : row_place row < 7 → 1 ≤ cell → cell ≤ 94 → cell_in cells row cell ≡ get_or cells (row_place row * 94 + cell - 1) 0
  unfolding cell_in
  in_cells r a b = rw (lt-ltb (row_place row) 7 r, le-leb 1 cell a, le-leb cell 94 b)

  pub off_cells : (row_place row < 7 → 1 ≤ cell → cell ≤ 94 → ⊥) → cell_in cells row cell ≡ 0
  unfolding cell_in
  off_cells n = go (ltb (row_place row) 7) (leb 1 cell) (leb cell 94) refl refl refl
    where
      go : (a b d : Bool) → ltb (row_place row) 7 ≡ a → leb 1 cell ≡ b → leb cell 94 ≡ d → cond (a && b && d) (get_or cells (row_place row * 94 + cell - 1) 0) 0 ≡ 0
      go true true true r l h = absurd (n (ltb-true (row_place row) 7 r) (leb-true 1 cell l) (leb-true cell 94 h))
      go true true false r l h = refl
      go true false d r l h = refl
      go false b d r l h = refl

-- the list of a rule's values, where the rule has none in the blank cells, has each at its row and cell
in_values : (f : ℕ → ℕ → ℕ) → ((row cell : ℕ) → table719 row cell ≡ 0 → f row cell ≡ 0) → (row cell : ℕ) → cell_in (values f) row cell ≡ f row cell
in_values f blank row cell = go (ltb (row_place row) 7) (leb 1 cell) (leb cell 94) refl refl refl
  where
    nowhere : (row_place row < 7 → 1 ≤ cell → cell ≤ 94 → ⊥) → table719 row cell ≡ 0 → cell_in (values f) row cell ≡ f row cell
    nowhere n e = off_cells (values f) row cell n ∙ sym (blank row cell e)

    go : (a b d : Bool) → ltb (row_place row) 7 ≡ a → leb 1 cell ≡ b → leb cell 94 ≡ d → cell_in (values f) row cell ≡ f row cell
    go false b d r l h =
        let q = ltb-false (row_place row) 7 r in
        nowhere (λ p a b. omega arith) (no_row row cell (row_place row) refl q)
    go true false d r l h =
        let z : cell ≡ 0 = omega (arith, leb-false 1 cell l) in
        nowhere (λ p a b. omega arith) (no_cell row cell z)
    go true true false r l h =
        let z = leb-false cell 94 h in
        nowhere (λ p a b. omega arith) (past_cells row cell z)
    go true true true r l h =
        let q = ltb-true (row_place row) 7 r in
        let a = leb-true 1 cell l in
        let b = leb-true cell 94 h in
        in_cells (values f) row cell q a b ∙ entry row cell (row_place row) refl q a b f

-- the list of all the symbols, and that of Table 7-19
pub symbols_in : SymbolsIn (values symbol)
symbols_in = in_values symbol blank_symbol

pub table_in : (row cell : ℕ) → cell_in (values table719) row cell ≡ table719 row cell
table_in = in_values table719 (λ row cell e. e)
