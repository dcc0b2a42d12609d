-- What the reverse look-ups find, for the crates above: the first cell that reads as the character, and nothing only
-- where no cell does. Assumes nothing.
use mathlib.Core.Path.{◌≡◌, refl, sym, ap, ◌∙◌, subst}
use mathlib.Core.List.{List, []}
use mathlib.Core.Option.{Option, none, some, some-injective}
use Prim.Native.Nat.{ℕ, ◌+◌, ◌/◌, ◌%◌, ◌<◌, ◌≤◌}
use native.Mathlib.Omega.{arith}
use lib.ListN.{get_or}
use Rattle.base.specs.First.{first}
use Rattle.base.proofs.FirstLaws.{First, first_some, first_none}
use Rattle.addsym.specs.Symbols.{symbol}
use Rattle.tables.specs.Kanji.{place, kanji_at}
use Rattle.tables_reverse.specs.Reverse.{place_of, kanji_place, symbol_place, kanji_reverse, additional_reverse}
use Rattle.tables_reverse.proofs.PlaceLaws.{kanji_place_lem, symbol_place_lem}

-- A reverse look-up in a two-byte set: c is read at the cell, and at none before it in row order.
pub record FirstCell (read : ℕ → ℕ → ℕ) (c row cell : ℕ) : Type 0 where
  pub character : c ≡ 0 → ⊥
  pub row_from : 1 ≤ row
  pub row_to : row ≤ 94
  pub cell_from : 1 ≤ cell
  pub cell_to : cell ≤ 94
  pub reads : read row cell ≡ c
  pub earlier : (r k : ℕ) → 1 ≤ r → 1 ≤ k → k ≤ 94 → place r k < place row cell → read r k ≡ c → ⊥

-- no cell reads as c
abbrev pub NoCell : (ℕ → ℕ → ℕ) → ℕ → Type 0
NoCell read c = (row cell : ℕ) → 1 ≤ row → row ≤ 94 → 1 ≤ cell → cell ≤ 94 → read row cell ≡ c → ⊥

module _ (f : ℕ → ℕ → ℕ) (t : List ℕ) (read : ℕ → ℕ → ℕ) (link : (row cell : ℕ) → 1 ≤ row → row ≤ 94 → 1 ≤ cell → cell ≤ 94 →
    f (place row cell) (get_or t (place row cell) 0) ≡ read row cell) where
  at_cell : (c row cell k : ℕ) → First f 8836 c t k → k / 94 + 1 ≡ row → k % 94 + 1 ≡ cell → FirstCell read c row cell
  at_cell c row cell k p er ec =
      let ka = p.inside in
      let a : 1 ≤ row = omega arith in
      let b : row ≤ 94 = omega arith in
      let d : 1 ≤ cell = omega arith in
      let e : cell ≤ 94 = omega arith in
      let q : k ≡ place row cell = omega arith in
      record {
        character = p.character;
        row_from = a;
        row_to = b;
        cell_from = d;
        cell_to = e;
        reads = sym (link row cell a b d e) ∙ subst (λ (m : ℕ). f m (get_or t m 0) ≡ c) q p.reads;
        earlier = λ r m hr hm hm' h w. p.earlier (place r m) (omega arith) (link r m hr (omega arith) hm hm' ∙ w);
      }

  cell_some : (c row cell : ℕ) → place_of (first f 8836 c t) ≡ some (row, cell) → FirstCell read c row cell
  unfolding place_of
  cell_some c row cell e = go (first f 8836 c t) refl e
    where
      go : (o : Option ℕ) → first f 8836 c t ≡ o → place_of o ≡ some (row, cell) → FirstCell read c row cell
      go none q z = absurd (let w : ◌≡◌ {A = ℕ} 0 1 = cc in omega arith)
      go (some k) q z = let p = some-injective _ _ z in at_cell c row cell k (first_some f 8836 c t k q) (ap (λ (x : ℕ × ℕ). x.0) p) (ap (λ (x : ℕ × ℕ). x.1) p)

  cell_none : (c : ℕ) → (c ≡ 0 → ⊥) → place_of (first f 8836 c t) ≡ none → NoCell read c
  unfolding place_of
  cell_none c h e row cell a b d g w = go (first f 8836 c t) refl e
    where
      go : (o : Option ℕ) → first f 8836 c t ≡ o → place_of o ≡ none → ⊥
      go none q z = first_none f 8836 c t h q (place row cell) (omega arith) (link row cell a b d g ∙ w)
      go (some k) q z = let w : ◌≡◌ {A = ℕ} 0 1 = cc in omega arith

-- `kanji_reverse` and `kanji`
pub kanji_found : (t : List ℕ) (c row cell : ℕ) → kanji_reverse t c ≡ some (row, cell) → FirstCell (kanji_at t) c row cell
unfolding kanji_reverse
kanji_found t = cell_some kanji_place t (kanji_at t) (λ row cell a b d e. kanji_place_lem row cell a b d e t)

pub kanji_nowhere : (t : List ℕ) (c : ℕ) → (c ≡ 0 → ⊥) → kanji_reverse t c ≡ none → NoCell (kanji_at t) c
unfolding kanji_reverse
kanji_nowhere t = cell_none kanji_place t (kanji_at t) (λ row cell a b d e. kanji_place_lem row cell a b d e t)

-- `additional_reverse` and `additional_symbols`
pub additional_found : (c row cell : ℕ) → additional_reverse c ≡ some (row, cell) → FirstCell symbol c row cell
unfolding additional_reverse
additional_found = cell_some symbol_place [] symbol (λ row cell a b d e. symbol_place_lem row cell a b d e 0)

pub additional_nowhere : (c : ℕ) → (c ≡ 0 → ⊥) → additional_reverse c ≡ none → NoCell symbol c
unfolding additional_reverse
additional_nowhere = cell_none symbol_place [] symbol (λ row cell a b d e. symbol_place_lem row cell a b d e 0)
