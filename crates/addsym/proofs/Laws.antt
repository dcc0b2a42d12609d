-- What holds of every additional symbol, for the crates above: one test of the 658 places.
-- Assumes nothing.
use mathlib.Core.Path.{◌≡◌, refl, ap, sym, subst}
use mathlib.Core.Bool.{Bool, true, false, cond, not, ◌&&◌, ◌||◌}
use mathlib.Core.List.{List, [], ◌∷◌}
use mathlib.Core.Logic.{◌⊎◌, inl, inr}
use Prim.Native.Nat.{ℕ, ◌+◌, ◌-◌, ◌*◌, ◌<◌, ◌≤◌}
use native.Mathlib.Omega.{arith}
use lib.Dec.{T, T_not, eqb, ltb, leb, ltb→lt, leb→le}
use lib.ListN.{get_or}
use borrow.Author.Tests.{ltb-true, ltb-false, eqb-true, eqb-false}
use Rattle.base.proofs.Table.{at}
use Rattle.addsym.specs.Table719.{replacements}
use Rattle.addsym.specs.Symbols.{row_place, table719, replaced_by, symbol}
use Rattle.addsym.proofs.Places.{values, entry, no_row, no_cell, past_cells}

-- is the number one of the list?
abbrev pub among : List ℕ → ℕ → Bool
among [] n = false
among (x ∷ xs) n = eqb n x || among xs n

-- newline, space and the seven combining marks
abbrev pub others : List ℕ
others = 0x0A ∷ 0x20 ∷ 0x0301 ∷ 0x0300 ∷ 0x0308 ∷ 0x0302 ∷ 0x0305 ∷ 0x0332 ∷ 0x20DD ∷ []

-- Below 110000, no surrogate, and none of the others: `no_other 0x0301 tt` says so of one of them.
pub record Plain (x : ℕ) : Type 0 where
  pub below : x < 0x110000
  pub no_surrogate : (x < 0xD800) ⊎ (0xE000 ≤ x)
  pub no_other : (n : ℕ) → T (among others n) → x ≡ n → ⊥

both : (a b : Bool) → T (a && b) → T a × T b
both true b t = (tt, t)
both false b t = absurd t

-- the test of one value, at any place
plain : ℕ → ℕ → Bool
plain k x = ltb x 0x110000 && (ltb x 0xD800 || leb 0xE000 x) && not (among others x)

apart : (x : ℕ) (b : Bool) → ltb x 0xD800 ≡ b → T (b || leb 0xE000 x) → (x < 0xD800) ⊎ (0xE000 ≤ x)
apart x true e t = inl (ltb-true x 0xD800 e)
apart x false e t = inr (leb→le 0xE000 x t)

told : (k x : ℕ) → T (plain k x) → Plain x
unfolding plain
told k x t =
    let p = both (ltb x 0x110000 && (ltb x 0xD800 || leb 0xE000 x)) (not (among others x)) t in
    let q = both (ltb x 0x110000) (ltb x 0xD800 || leb 0xE000 x) p.0 in
    record {
      below = ltb→lt x 0x110000 q.0;
      no_surrogate = apart x (ltb x 0xD800) refl q.1;
      no_other = λ n m e. T_not (among others x) p.1 (subst (λ (y : ℕ). T (among others y)) (sym e) m);
    }

at_place : (k : ℕ) → k < 658 → Plain (get_or (values symbol) k 0)
unfolding plain symbol
at_place k h = told k (get_or (values symbol) k 0) (at 0 plain (values symbol) tt k h)

-- where Table 7-19 is blank there is no symbol
pub blank_symbol : (row cell : ℕ) → table719 row cell ≡ 0 → symbol row cell ≡ 0
unfolding symbol
blank_symbol row cell e = ap (λ (t : ℕ). cond (eqb t 0) 0 (replaced_by replacements row cell)) e

-- the symbol of every row and cell is plain
pub symbol_plain : (row cell : ℕ) → Plain (symbol row cell)
unfolding plain
symbol_plain row cell = go (ltb (row_place row) 7) (eqb cell 0) (ltb 94 cell) refl refl refl
  where
    none : table719 row cell ≡ 0 → Plain (symbol row cell)
    none e = subst Plain (sym (blank_symbol row cell e)) (told 0 0 tt)

    go : (a b d : Bool) → ltb (row_place row) 7 ≡ a → eqb cell 0 ≡ b → ltb 94 cell ≡ d → Plain (symbol row cell)
    go false b d r z m = none (no_row row cell (row_place row) refl (ltb-false (row_place row) 7 r))
    go true true d r z m = none (no_cell row cell (eqb-true cell 0 z))
    go true false true r z m = none (past_cells row cell (ltb-true 94 cell m))
    go true false false r z m =
        let hr = ltb-true (row_place row) 7 r in
        let h0 : 0 < cell = omega (arith, eqb-false cell 0 z) in
        let h1 = ltb-false 94 cell m in
        subst Plain (entry row cell (row_place row) refl hr h0 h1 symbol)
        (at_place (row_place row * 94 + cell - 1) (omega arith))
