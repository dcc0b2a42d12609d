-- `addsym::symbols` meets its contract: antt computes the list of the 658 symbols, and the rows one after another are that list.
-- Assumes nothing.
use Prim.Native.Nat.{ℕ}
use mathlib.Core.Path.{sym, ap, subst, ◌∙◌}
use mathlib.Core.List.{List}
use lib.Seq.{sets}
use Rattle.addsym.specs.Symbols.{symbol, SymbolsIn}
use Rattle.addsym.proofs.Places.{row_of}
use Rattle.addsym.proofs.Cells.{symbols_in}
use Rattle.addsym.proofs.symbols.Goals as goal

pub returns : goal.returns
unfolding symbol
returns c =
    let e₁ = c.put_row.ensures in
    let e₂ = c.put_row-2.ensures in
    let e₃ = c.put_row-3.ensures in
    let e₄ = c.put_row-4.ensures in
    let e₅ = c.put_row-5.ensures in
    let e₆ = c.put_row-6.ensures in
    let e₇ = c.put_row-7.ensures in
    subst SymbolsIn
    (sym
    (e₇ ∙ ap (λ (l : List ℕ). sets l 564 (row_of (symbol 94)))
    (e₆ ∙ ap (λ (l : List ℕ). sets l 470 (row_of (symbol 93)))
    (e₅ ∙ ap (λ (l : List ℕ). sets l 376 (row_of (symbol 92)))
    (e₄ ∙ ap (λ (l : List ℕ). sets l 282 (row_of (symbol 91)))
    (e₃ ∙ ap (λ (l : List ℕ). sets l 188 (row_of (symbol 90)))
    (e₂ ∙ ap (λ (l : List ℕ). sets l 94 (row_of (symbol 86))) e₁)))))))
    symbols_in
