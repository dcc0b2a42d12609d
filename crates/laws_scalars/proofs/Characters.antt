-- Every character that a step can write is a scalar, or 0 for none. Assumes nothing.
use mathlib.Core.Logic.{◌⊎◌, inl, inr}
use mathlib.Core.Bool.{Bool, true, false, cond, ◌&&◌, ◌||◌}
use mathlib.Core.List.{List, [], ◌∷◌, ◌++◌}
use Prim.Native.Nat.{ℕ, zero, suc, ◌-◌, ◌<◌, ◌≤◌}
use native.Mathlib.Omega.{arith}
use native.Mathlib.Decide.{dec_lt}
use borrow.Author.Tests.{lt-ltb, le-ltb, le-leb}
use lib.Dec.{T, eqb, ltb, leb}
use lib.ListN.{get_or, replicate}
use Rattle.utf8.specs.Utf8.{is_scalar, are_scalars}
use Rattle.addsym.specs.Symbols.{symbol}
use Rattle.tables_onebyte.specs.OneByte.{table_of, one_byte_at}
use Rattle.tables.specs.Kanji.{kanji_at}
use Rattle.tables_onebyte.specs.declared.OneByteTable.{OneByteTable}
use Rattle.tables_onebyte.specs.declared.OneByteTable.TheVariants.{Alphanumeric, Fullwidth, Hiragana, Katakana, JisX0201Katakana}
use Rattle.tables.proofs.ScalarLaws.{Scalar, symbol_scalar, kanji_scalar}
use Rattle.questions.proofs.CellTable.{held}
use Rattle.reading.specs.State.{Given}
use Rattle.reading.specs.Characters.{letter}
use Rattle.laws_scalars.specs.Scalars.{Table}

-- ---- lists

pub both : (a b : Bool) → T a → T b → T (a && b)
both true b s t = t
both false b s t = absurd s

split : (a b : Bool) → T (a && b) → T a × T b
split true b t = (tt, t)
split false b t = absurd t

pub scalars_append : (l m : List ℕ) → T (are_scalars l) → T (are_scalars m) → T (are_scalars (l ++ m))
unfolding are_scalars
scalars_append [] m s t = t
scalars_append (x ∷ l) m s t = let p = split (is_scalar x) (are_scalars l) s in both (is_scalar x) (are_scalars (l ++ m)) p.0 (scalars_append l m p.1 t)

pub scalars_replicate : (n c : ℕ) → T (is_scalar c) → T (are_scalars (replicate n c))
unfolding are_scalars
scalars_replicate zero c s = tt
scalars_replicate (suc n) c s = both (is_scalar c) (are_scalars (replicate n c)) s (scalars_replicate n c s)

scalars_at : (l : List ℕ) → T (are_scalars l) → (k : ℕ) → T (is_scalar (get_or l k 0))
unfolding are_scalars is_scalar
scalars_at [] s k = tt
scalars_at (x ∷ l) s zero = (split (is_scalar x) (are_scalars l) s).0
scalars_at (x ∷ l) s (suc k) = scalars_at l (split (is_scalar x) (are_scalars l) s).1 k

-- what holds of both holds of either
pub either : {A : Type 0} (P : A → Type 0) (t : Bool) {a b : A} → P a → P b → P (cond t a b)
either P true x y = x
either P false x y = y

abbrev Is : ℕ → Type 0
Is c = T (is_scalar c)

-- ---- one-byte sets

table_scalars : (t : OneByteTable) → T (are_scalars (table_of t))
unfolding table_of are_scalars is_scalar
table_scalars Alphanumeric = tt
table_scalars Fullwidth = tt
table_scalars Hiragana = tt
table_scalars Katakana = tt
table_scalars JisX0201Katakana = tt

none_scalar : T (is_scalar 0)
unfolding is_scalar
none_scalar = tt

one_byte_scalar : (t : OneByteTable) (c : ℕ) → T (is_scalar (one_byte_at t c))
unfolding one_byte_at
one_byte_scalar t c = either Is (ltb c 0x21) none_scalar (scalars_at (table_of t) (table_scalars t) (c - 0x21))

pub letter_scalar : (narrow : Bool) (number c : ℕ) → T (is_scalar (letter narrow number c))
unfolding letter
letter_scalar narrow number c =
    either Is (eqb number 1 || eqb number 8) (either Is narrow (one_byte_scalar Alphanumeric c) (one_byte_scalar Fullwidth c))
    (either Is (eqb number 2 || eqb number 9) (one_byte_scalar Hiragana c)
    (either Is (eqb number 3 || eqb number 10) (one_byte_scalar Katakana c)
    (either Is (eqb number 11) (one_byte_scalar JisX0201Katakana c) none_scalar)))

-- ---- two-byte sets

is_scalar_lem : (c : ℕ) → Scalar c → T (is_scalar c)
unfolding is_scalar
is_scalar_lem c s = go s.no_surrogate
  where
    go : (c < 0xD800) ⊎ (0xE000 ≤ c) → T (ltb c 0xD800 || (leb 0xE000 c && ltb c 0x110000))
    go (inl h) = rw (lt-ltb c 0xD800 h) tt
    go (inr h) =
        let k : 0xD800 ≤ c = omega arith in
        rw (le-ltb c 0xD800 k, le-leb 0xE000 c h, lt-ltb c 0x110000 s.below) tt

pub symbol_is : (row cell : ℕ) → T (is_scalar (symbol row cell))
symbol_is row cell = is_scalar_lem (symbol row cell) (symbol_scalar row cell)

cell_scalar : (g : Given) → Table g → (k : ℕ) → Scalar (get_or g.cells k 0)
cell_scalar g t k = record { below = omega (arith, t.numbers k); no_surrogate = go (dec_lt (get_or g.cells k 0) 0xD800) }
  where
    go : Dec (get_or g.cells k 0 < 0xD800) → (get_or g.cells k 0 < 0xD800) ⊎ (0xE000 ≤ get_or g.cells k 0)
    go (yes h) = inl h
    go (no h) = let q : 0xDFFF < get_or g.cells k 0 = (held g.cells t.admitted).no_surrogate k (omega (arith, h)) in let r : 0xE000 ≤ get_or g.cells k 0 = omega arith in inr r

pub kanji_is : (g : Given) → Table g → (row cell : ℕ) → T (is_scalar (kanji_at g.cells row cell))
kanji_is g t row cell = is_scalar_lem (kanji_at g.cells row cell) (kanji_scalar g.cells (cell_scalar g t) row cell)
