-- A row, or the whole table of symbols, that is seen to have no cell with a character. Assumes nothing.
use mathlib.Core.Path.{◌≡◌, refl, sym, ◌∙◌, subst}
use mathlib.Core.Bool.{Bool, true, false, false≢true, cond, not, ◌&&◌, ◌||◌}
use mathlib.Core.List.{List, [], ◌∷◌}
use Prim.Native.Nat.{ℕ, ◌+◌, ◌-◌, ◌*◌, ◌<◌, ◌≤◌}
use native.Mathlib.Omega.{arith}
use lib.Dec.{T, eqb, leb, ltb}
use lib.ListN.{length, get_or, take, drop, length-take, length-drop}
use lib.Seq.{get_or-drop, get_or-take}
use borrow.Author.Tests.{ltb-true, leb-true, eqb-false, eq-eqb, ne_eqb}
use Rattle.std.specs.List.{list_any}
use Rattle.std.proofs.lemmas.List.Folds.{list_any_at}
use Rattle.base.proofs.Table.{at}
use Rattle.addsym.specs.Symbols.{row_place, symbol, cell_in, SymbolsIn}
use Rattle.addsym.proofs.Places.{values}
use Rattle.addsym.proofs.Cells.{symbols_in}
use Rattle.tables.specs.Kanji.{non_spacing, kanji_overrides, assigned, has_character, table_at, kanji_at}
use Rattle.tables.specs.declared.Assignment.{Assignment}
use Rattle.tables.proofs.KanjiLaws.{rows_1_2}

-- the number is at none of the first n places
abbrev pub None : List ℕ → ℕ → ℕ → Type 0
None l c n = (i : ℕ) → i < n → get_or l i 0 ≡ c → ⊥

-- a number that a search of the whole list does not find
pub absent : (l : List ℕ) (c : ℕ) → list_any (λ x. eqb x c) l ≡ false → None l c (length l)
absent l c e i h r = false≢true (sym e ∙ list_any_at (λ x. eqb x c) l i 0 h (eq-eqb (get_or l i 0) c r))

-- a number that a part of a list has not is not in the list there
pub in_part : (t : List ℕ) (f n c k : ℕ) → f + n ≤ length t → k < n → ((i : ℕ) → i < length (take n (drop f t)) → get_or (take n (drop f t)) i 0 ≡ c → ⊥) → get_or t (f + k) 0 ≡ c → ⊥
in_part t f n c k h b e r =
    e k (omega (arith, length-take n (drop f t), length-drop f t)) (get_or-take n (drop f t) k 0 b ∙ get_or-drop f t k 0 ∙ r)

-- a list that assigns no cell the character leaves it to the number below
pub unassigned : (l : List Assignment) (c row cell x : ℕ) → has_character l c ≡ false → assigned l row cell x ≡ c → x ≡ c
unfolding has_character assigned
unassigned [] c row cell x e r = r
unassigned (a ∷ more) c row cell x e r = go (eqb a.character c) (eqb a.row row && eqb a.cell cell) refl e r (unassigned more c row cell x)
  where
    go : (b d : Bool) → eqb a.character c ≡ b → cond b true (has_character more c) ≡ false → cond d a.character (assigned more row cell x) ≡ c
        → (has_character more c ≡ false → assigned more row cell x ≡ c → x ≡ c) → x ≡ c
    go true d p z w s = absurd (false≢true (sym z))
    go false true p z w s = absurd (eqb-false a.character c p w)
    go false false p z w s = s z w

-- rows 1 and 2, for a character that is neither a mark nor an override's
pub plain_row : (t : List ℕ) (row cell c : ℕ) → row < 3 → has_character non_spacing c ≡ false → has_character kanji_overrides c ≡ false → kanji_at t row cell ≡ c → table_at t row cell ≡ c
unfolding kanji_at
plain_row t row cell c h m o e =
    let x = table_at t row cell in
    unassigned kanji_overrides c row cell x o (unassigned non_spacing c row cell (assigned kanji_overrides row cell x) m (sym (rows_1_2 row cell x h) ∙ e))

-- ---- the table of symbols

-- what holds of 0 and of every number of a list holds of the list read at a row and a cell
in_list : (cells : List ℕ) (P : ℕ → Type 0) → P 0 → ((k : ℕ) → k < 658 → P (get_or cells k 0)) → (row cell : ℕ) → P (cell_in cells row cell)
unfolding cell_in
in_list cells P z e row cell = go (ltb (row_place row) 7) (leb 1 cell) (leb cell 94) refl refl refl
  where
    go : (a b d : Bool) → ltb (row_place row) 7 ≡ a → leb 1 cell ≡ b → leb cell 94 ≡ d → P (cond (a && b && d) (get_or cells (row_place row * 94 + cell - 1) 0) 0)
    go true true true p q r =
        let hr = ltb-true (row_place row) 7 p in
        let h1 = leb-true 1 cell q in
        let h2 = leb-true cell 94 r in
        e (row_place row * 94 + cell - 1) (omega arith)
    go true true false p q r = z
    go true false d p q r = z
    go false b d p q r = z

-- a list of the symbols that has a character at no place has it at no cell
pub no_cell : (cells : List ℕ) (c : ℕ) → SymbolsIn cells → (c ≡ 0 → ⊥) → None cells c 658 → (row cell : ℕ) → symbol row cell ≡ c → ⊥
no_cell cells c s h e row cell r = in_list cells (λ (x : ℕ). x ≡ c → ⊥) (λ q. h (sym q)) e row cell (s row cell ∙ r)

-- the ranges in which `is_no_symbol` answers yes
abbrev pub ranged : ℕ → Bool
ranged x = ltb x 0x80 || (leb 0x3041 x && ltb x 0x3100 || leb 0xFF00 x && ltb x 0x10000)

apart : ℕ → ℕ → Bool
apart k x = eqb x 0 || not (ranged x)

-- no symbol is in one of them: one test of the 658 places
apart_at : (k : ℕ) → k < 658 → T (apart k (get_or (values symbol) k 0))
unfolding apart symbol
apart_at k h = at 0 apart (values symbol) tt k h

pub no_symbol_in : (c : ℕ) → ranged c ≡ true → (row cell : ℕ) → (c ≡ 0 → ⊥) → symbol row cell ≡ c → ⊥
unfolding apart
no_symbol_in c e row cell h r = rw (ne_eqb c 0 h, e) at (subst (λ (x : ℕ). T (apart 0 x)) (symbols_in row cell ∙ r) (in_list (values symbol) (λ (x : ℕ). T (apart 0 x)) tt apart_at row cell))
