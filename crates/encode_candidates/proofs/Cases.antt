-- The three kinds of character: newline, mark, any other. Assumes nothing.
use mathlib.Core.Path.{◌≡◌, refl, sym, ap, ◌∙◌}
use mathlib.Core.Bool.{Bool, true, false, cond, ◌&&◌}
use mathlib.Core.List.{List, [], ◌∷◌}
use mathlib.Core.Option.{Option, none, some}
use Prim.Native.Nat.{ℕ, ◌+◌, ◌*◌, ◌≤◌}
use native.Mathlib.Omega.{arith}
use lib.Dec.{T, eqb, leb, leb→le}
use borrow.Author.Tests.{eq-eqb, ne_eqb}
use Rattle.control.specs.Codes.{APR}
use Rattle.tables.specs.Kanji.{non_spacing, has_character, cell_with}
use Rattle.tables.specs.declared.Assignment.{Assignment}
use Rattle.coding.specs.Candidates.{either, plain, of_place, letters, candidates}
use Rattle.encode_candidates.specs.Packed.{packed}
use Rattle.encode_candidates.proofs.Adding.{OnGrid}

-- ---- marks

and_left : (a b : Bool) → T (a && b) → T a
and_left true b t = tt
and_left false b t = t

and_right : (a b : Bool) → T (a && b) → T b
and_right true b t = t
and_right false b t = absurd t

abbrev on_grid : List Assignment → Bool
on_grid [] = true
on_grid (a ∷ more) = leb 1 a.row && (leb a.row 94 && (leb a.cell 94 && on_grid more))

-- was a cell found?
abbrev found : Option (ℕ × ℕ) → Bool
found none = false
found (some p) = true

module _ (c : ℕ) where
  -- a mark is a character that a cell is found for
  mark_found : (l : List Assignment) → has_character l c ≡ found (cell_with l c)
  unfolding has_character cell_with
  mark_found [] = refl
  mark_found (a ∷ more) = go (eqb a.character c) (mark_found more)
    where
      go : (b : Bool) → has_character more c ≡ found (cell_with more c) → cond b true (has_character more c) ≡ found (cond b (some (a.row, a.cell)) (cell_with more c))
      go true e = refl
      go false e = e

  with_grid : (l : List Assignment) → T (on_grid l) → OnGrid (cell_with l c)
  unfolding cell_with OnGrid
  with_grid [] t = tt
  with_grid (a ∷ more) t =
      let t1 = and_right (leb 1 a.row) (leb a.row 94 && (leb a.cell 94 && on_grid more)) t in
      let t2 = and_right (leb a.row 94) (leb a.cell 94 && on_grid more) t1 in
      go (eqb a.character c)
      (leb→le 1 a.row (and_left (leb 1 a.row) (leb a.row 94 && (leb a.cell 94 && on_grid more)) t))
      (leb→le a.row 94 (and_left (leb a.row 94) (leb a.cell 94 && on_grid more) t1))
      (leb→le a.cell 94 (and_left (leb a.cell 94) (on_grid more) t2))
      (with_grid more (and_right (leb a.cell 94) (on_grid more) t2))
    where
      go : (b : Bool) → 1 ≤ a.row → a.row ≤ 94 → a.cell ≤ 94 → OnGrid (cell_with more c) → OnGrid (cond b (some (a.row, a.cell)) (cell_with more c))
      go true x y z g = (x, y, z)
      go false x y z g = g

  pub mark_grid : OnGrid (cell_with non_spacing c)
  mark_grid = with_grid non_spacing tt

  pub is_mark : (packed (cell_with non_spacing c) ≡ 0 → ⊥) → has_character non_spacing c ≡ true
  unfolding packed
  is_mark n = go (cell_with non_spacing c) refl
    where
      go : (p : Option (ℕ × ℕ)) → cell_with non_spacing c ≡ p → has_character non_spacing c ≡ true
      go none e = absurd (n (ap packed e))
      go (some (a, b)) e = mark_found non_spacing ∙ ap found e

  pub no_mark : packed (cell_with non_spacing c) ≡ 0 → has_character non_spacing c ≡ false
  unfolding packed OnGrid
  no_mark z = go (cell_with non_spacing c) refl mark_grid
    where
      go : (p : Option (ℕ × ℕ)) → cell_with non_spacing c ≡ p → OnGrid p → has_character non_spacing c ≡ false
      go none e g = mark_found non_spacing ∙ ap found e
      go (some (a, b)) e g = let q : a * 256 + b ≡ 0 = sym (ap packed e) ∙ z in absurd (omega (arith, q, g.0))

-- ---- the definition in each case

module _ (cells : List ℕ) (annex_e : Bool) (c : ℕ) where
  pub at_newline : c ≡ 10 → plain APR either ∷ [] ≡ candidates cells annex_e c
  unfolding candidates
  at_newline e = rw (eq-eqb c 10 e, candidates)

  pub at_mark : (c ≡ 10 → ⊥) → has_character non_spacing c ≡ true → of_place 0 either (cell_with non_spacing c) ≡ candidates cells annex_e c
  unfolding candidates
  at_mark n e = rw (ne_eqb c 10 n, e, candidates)

  pub at_letter : (c ≡ 10 → ⊥) → has_character non_spacing c ≡ false → letters cells annex_e c ≡ candidates cells annex_e c
  unfolding candidates
  at_letter n e = rw (ne_eqb c 10 n, e, candidates)
