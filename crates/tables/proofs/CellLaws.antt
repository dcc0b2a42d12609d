-- What a search of the lists of marks and overrides says in the words of specs/, and what a place found says. Assumes
-- nothing.
use mathlib.Core.Path.{◌≡◌, refl, sym, ap, ◌∙◌}
use mathlib.Core.Bool.{Bool, true, false, cond}
use mathlib.Core.List.{List, [], ◌∷◌}
use mathlib.Core.Option.{none, some}
use Rattle.std.specs.Prelude.{Option, Some, None, is_some}
use Rattle.std.specs.List.{position, position_or_len}
use Rattle.std.proofs.lemmas.Option.{cond_some, none-some}
use Rattle.std.proofs.lemmas.List.Recursion.{is_position_or_len}
use Prim.Native.Nat.{ℕ, suc, ◌+◌, ◌<◌, ◌≤◌}
use native.Mathlib.Omega.{arith}
use lib.Dec.{eqb, ltb}
use lib.ListN.{length, get_or}
use borrow.Author.Tests.{lt-ltb, le-ltb, ltb-true, ltb-false}
use Rattle.tables.specs.Kanji.{has_character, cell_with}
use Rattle.tables.specs.Marks.{place_with}
use Rattle.tables.specs.declared.Assignment.{Assignment}

abbrev pub outside : Assignment
outside = record { row = 0; cell = 0; character = 0 }

-- the answers of the searches over a list, in the words of specs/
place_is : (list : List Assignment) (c : ℕ) → place_with list c ≡ position_or_len (λ (a : Assignment). eqb a.character c) list
unfolding place_with
place_is list c = is_position_or_len (λ l. place_with l c) (λ (a : Assignment). eqb a.character c) refl (λ a more. grind arith) list

pub place_found : (list : List Assignment) (c k : ℕ) → position (λ (a : Assignment). eqb a.character c) list ≡ Some k
    → (place_with list c < length list) × (suc (place_with list c) ≡ k + 1)
place_found list c k e =
    let p = place_is list c in
    let q = cond_some _ _ _ e in
    let h = ltb-true _ _ q.0 in
    (omega arith, omega (arith, q.1))

none_only : (b : Bool) (x : ℕ) → ◌≡◌ {A = Option ℕ} (cond b (Some x) None) None → b ≡ false
none_only true x e = absurd (none-some x (sym e))
none_only false x e = refl

pub place_missing : (list : List Assignment) (c : ℕ) → position (λ (a : Assignment). eqb a.character c) list ≡ None → length list ≤ place_with list c
place_missing list c e =
    let p = place_is list c in
    let h = ltb-false _ _ (none_only _ _ e) in
    omega arith

some_only : (b : Bool) (x : ℕ) → is_some (cond b (Some x) None) ≡ b
some_only true x = refl
some_only false x = refl

ltb_suc : (a b : ℕ) → ltb (suc a) (suc b) ≡ ltb a b
ltb_suc a b = go (ltb a b) refl
  where
    go : (d : Bool) → ltb a b ≡ d → ltb (suc a) (suc b) ≡ ltb a b
    go true q = let h = ltb-true a b q in lt-ltb (suc a) (suc b) (omega arith) ∙ sym q
    go false q = let h = ltb-false a b q in le-ltb (suc a) (suc b) (omega arith) ∙ sym q

-- a character of a list has a place in it
pub has_place : (list : List Assignment) (c : ℕ) → ltb (place_with list c) (length list) ≡ has_character list c
unfolding place_with has_character
has_place [] c = refl
has_place (a ∷ more) c = go (eqb a.character c) (has_place more c)
  where
    go : (b : Bool) → ltb (place_with more c) (length more) ≡ has_character more c → ltb (cond b 0 (suc (place_with more c))) (suc (length more)) ≡ cond b true (has_character more c)
    go true e = lt-ltb 0 (suc (length more)) (omega arith)
    go false e = ltb_suc (place_with more c) (length more) ∙ e

pub has_position : (list : List Assignment) (c : ℕ) → is_some (position (λ (a : Assignment). eqb a.character c) list) ≡ has_character list c
has_position list c = some_only _ _ ∙ ap (λ (n : ℕ). ltb n (length list)) (sym (place_is list c)) ∙ has_place list c

-- and its cell is that of the place
pub cell_there : (list : List Assignment) (c : ℕ) → place_with list c < length list →
    some ((get_or list (place_with list c) outside).row, (get_or list (place_with list c) outside).cell) ≡ cell_with list c
unfolding place_with cell_with
cell_there [] c h = absurd (omega arith)
cell_there (a ∷ more) c h = go (eqb a.character c) h (cell_there more c)
  where
    go : (b : Bool) → cond b 0 (suc (place_with more c)) < suc (length more)
        → (place_with more c < length more → some ((get_or more (place_with more c) outside).row, (get_or more (place_with more c) outside).cell) ≡ cell_with more c)
        → some ((get_or (a ∷ more) (cond b 0 (suc (place_with more c))) outside).row, (get_or (a ∷ more) (cond b 0 (suc (place_with more c))) outside).cell)
        ≡ cond b (some (a.row, a.cell)) (cell_with more c)
    go true l r = refl
    go false l r = r (omega arith)

pub cell_nowhere : (list : List Assignment) (c : ℕ) → length list ≤ place_with list c → none ≡ cell_with list c
unfolding place_with cell_with
cell_nowhere [] c h = refl
cell_nowhere (a ∷ more) c h = go (eqb a.character c) h (cell_nowhere more c)
  where
    go : (b : Bool) → suc (length more) ≤ cond b 0 (suc (place_with more c)) → (length more ≤ place_with more c → none ≡ cell_with more c)
        → none ≡ cond b (some (a.row, a.cell)) (cell_with more c)
    go true l r = absurd (omega arith)
    go false l r = r (omega arith)
