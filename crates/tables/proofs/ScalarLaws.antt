-- The Kanji set over a table of scalar values reads scalar values, for the crates above. Assumes nothing.
use mathlib.Core.Path.{◌≡◌, refl}
use mathlib.Core.Bool.{Bool, true, false, cond, ◌&&◌, ◌||◌}
use mathlib.Core.List.{List, [], ◌∷◌}
use mathlib.Core.Logic.{◌⊎◌, inl, inr}
use Prim.Native.Nat.{ℕ, ◌<◌, ◌≤◌}
use lib.Dec.{T, eqb, ltb, leb}
use lib.ListN.{get_or}
use borrow.Author.Tests.{ltb-true, leb-true}
use Rattle.addsym.specs.Symbols.{symbol}
use Rattle.addsym.proofs.Laws.{symbol_plain}
use Rattle.tables.specs.Kanji.{non_spacing, kanji_overrides, assigned, on_grid, place, table_at, gap, kanji_symbol, kanji_of, kanji_at}
use Rattle.tables.specs.declared.Assignment.{Assignment}

-- a Unicode scalar value
pub record Scalar (c : ℕ) : Type 0 where
  pub below : c < 0x110000
  pub no_surrogate : (c < 0xD800) ⊎ (0xE000 ≤ c)

abbrev pub scalar : ℕ → Bool
scalar c = ltb c 0x110000 && (ltb c 0xD800 || leb 0xE000 c)

-- a number that passes the test is a scalar value
pub is_scalar_lem : (c : ℕ) → T (scalar c) → Scalar c
is_scalar_lem c = go (ltb c 0x110000) (ltb c 0xD800) (leb 0xE000 c) refl refl refl
  where
    go : (a b d : Bool) → ltb c 0x110000 ≡ a → ltb c 0xD800 ≡ b → leb 0xE000 c ≡ d → T (a && (b || d)) → Scalar c
    go true true d ea eb ed t = record { below = ltb-true c 0x110000 ea; no_surrogate = inl (ltb-true c 0xD800 eb) }
    go true false true ea eb ed t = record { below = ltb-true c 0x110000 ea; no_surrogate = inr (leb-true 0xE000 c ed) }
    go true false false ea eb ed t = absurd t
    go false b d ea eb ed t = absurd t

-- a choice of two scalar values is one
either : (b : Bool) {x y : ℕ} → Scalar x → Scalar y → Scalar (cond b x y)
either true s r = s
either false s r = r

-- each character of a list is a scalar value
data Scalars : List Assignment → Type 0 where
  none : Scalars []
  more : {a : Assignment} {list : List Assignment} → T (scalar a.character) → Scalars list → Scalars (a ∷ list)

assigned_scalar : (list : List Assignment) → Scalars list → (row cell x : ℕ) → Scalar x → Scalar (assigned list row cell x)
unfolding assigned
assigned_scalar [] none row cell x s = s
assigned_scalar (a ∷ list) (more h rest) row cell x s = either (eqb a.row row && eqb a.cell cell) (is_scalar_lem a.character h) (assigned_scalar list rest row cell x s)

nothing : Scalar 0
nothing = is_scalar_lem 0 tt

pub symbol_scalar : (row cell : ℕ) → Scalar (symbol row cell)
symbol_scalar row cell =
    let p = symbol_plain row cell in
    record { below = p.below; no_surrogate = p.no_surrogate }

kanji_of_lem : (row cell x : ℕ) → Scalar x → Scalar (kanji_of row cell x)
unfolding kanji_of
kanji_of_lem row cell x s = assigned_scalar non_spacing (more tt (more tt (more tt (more tt (more tt (more tt (more tt none))))))) row cell _ (go (leb 90 row && leb row 94))
  where
    go : (b : Bool) → Scalar (elim b [ true ↦ kanji_symbol row cell | false ↦ assigned kanji_overrides row cell x ])
    go true = either (gap row cell) nothing (symbol_scalar row cell)
    go false = assigned_scalar kanji_overrides (more tt (more tt (more tt (more tt (more tt (more tt (more tt none))))))) row cell x s

-- `kanji` over a table whose numbers are scalar values
pub kanji_scalar : (t : List ℕ) → ((i : ℕ) → Scalar (get_or t i 0)) → (row cell : ℕ) → Scalar (kanji_at t row cell)
unfolding kanji_at
kanji_scalar t h row cell = kanji_of_lem row cell (table_at t row cell) (either (on_grid row cell) (h (place row cell)) nothing)
