-- `addsym::scalar` meets its contract: antt computes the list of a row's 94 symbols, and the row's constant is that list.
-- Assumes nothing.
use mathlib.Core.Path.{◌≡◌, sym, ap, ◌∙◌}
use Prim.Native.Nat.{ℕ}
use native.Mathlib.Omega.{arith}
use borrow.Author.Tests.{ne_eqb}
use Rattle.addsym.specs.Symbols.{row_place, symbol}
use Rattle.addsym.proofs.Laws.{blank_symbol}
use Rattle.addsym.proofs.Places.{in_row, no_row, no_cell, past_cells}
use Rattle.addsym.proofs.scalar.Goals as goal

pub returns-then-cell-eq0 : goal.returns-then-cell-eq0
returns-then-cell-eq0 c =
    let a = c.args in
    sym (blank_symbol a.row a.cell (no_cell a.row a.cell c.if-cell-eq0.true))

pub returns-then-cell-gt94 : goal.returns-then-cell-gt94
returns-then-cell-gt94 c =
    let a = c.args in
    sym (blank_symbol a.row a.cell (past_cells a.row a.cell c.if-cell-gt94.true))

pub returns-in-85 : goal.returns-in-85
unfolding symbol
returns-in-85 c =
    let a = c.args in
    in_row (symbol 85) a.cell (omega arith) (omega arith) ∙ ap (λ (r : ℕ). symbol r a.cell) (sym c.in-85.is)

pub returns-in-86 : goal.returns-in-86
unfolding symbol
returns-in-86 c =
    let a = c.args in
    in_row (symbol 86) a.cell (omega arith) (omega arith) ∙ ap (λ (r : ℕ). symbol r a.cell) (sym c.in-86.is)

pub returns-in-90 : goal.returns-in-90
unfolding symbol
returns-in-90 c =
    let a = c.args in
    in_row (symbol 90) a.cell (omega arith) (omega arith) ∙ ap (λ (r : ℕ). symbol r a.cell) (sym c.in-90.is)

pub returns-in-91 : goal.returns-in-91
unfolding symbol
returns-in-91 c =
    let a = c.args in
    in_row (symbol 91) a.cell (omega arith) (omega arith) ∙ ap (λ (r : ℕ). symbol r a.cell) (sym c.in-91.is)

pub returns-in-92 : goal.returns-in-92
unfolding symbol
returns-in-92 c =
    let a = c.args in
    in_row (symbol 92) a.cell (omega arith) (omega arith) ∙ ap (λ (r : ℕ). symbol r a.cell) (sym c.in-92.is)

pub returns-in-93 : goal.returns-in-93
unfolding symbol
returns-in-93 c =
    let a = c.args in
    in_row (symbol 93) a.cell (omega arith) (omega arith) ∙ ap (λ (r : ℕ). symbol r a.cell) (sym c.in-93.is)

pub returns-in-94 : goal.returns-in-94
unfolding symbol
returns-in-94 c =
    let a = c.args in
    in_row (symbol 94) a.cell (omega arith) (omega arith) ∙ ap (λ (r : ℕ). symbol r a.cell) (sym c.in-94.is)

pub returns-in_default : goal.returns-in_default
unfolding row_place
returns-in_default c =
    let a = c.args in
    let m = c.in_default.in_default-own.rest in
    let e : 7 ≡ row_place a.row =
    simp (
      ne_eqb _ _ m.0.0.0.0.0.0.1,
      ne_eqb _ _ m.0.0.0.0.0.1,
      ne_eqb _ _ m.0.0.0.0.1,
      ne_eqb _ _ m.0.0.0.1,
      ne_eqb _ _ m.0.0.1,
      ne_eqb _ _ m.0.1,
      ne_eqb _ _ m.1,
    ) in
    sym (blank_symbol a.row a.cell (no_row a.row a.cell 7 e (omega arith)))
