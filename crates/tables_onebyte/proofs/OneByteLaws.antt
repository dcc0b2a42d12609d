-- What a code of a one-byte table reads as, and the rules of the code held to the tables: one test of all 256 codes for
-- a rule. Assumes nothing.
use mathlib.Core.Path.{◌≡◌, refl, sym}
use mathlib.Core.Bool.{Bool, true, false, cond}
use mathlib.Core.List.{List, map}
use Prim.Native.Nat.{ℕ, ◌-◌, ◌<◌, ◌≤◌}
use lib.Dec.{T, eqb, ltb, eqb→eq}
use lib.ListN.{get_or, replicate, get_or-map}
use borrow.Author.Tests.{lt-ltb, le-ltb}
use Rattle.base.proofs.Table.{every, at}
use Rattle.tables_onebyte.specs.OneByte.{one_byte_at, table_of, fullwidth_of, alphanumeric_table}
use Rattle.tables_onebyte.specs.declared.OneByteTable.{OneByteTable}
use Rattle.tables_onebyte.specs.declared.OneByteTable.TheVariants.{Alphanumeric, Fullwidth}

-- a list of 256 elements: the test looks at the places alone
abbrev codes : List ℕ
codes = replicate 256 0

-- the table reads as f at a code
abbrev same : OneByteTable → (ℕ → ℕ) → ℕ → ℕ → Bool
same table f c x = eqb (one_byte_at table c) (f c)

-- and at every code
abbrev pub agrees : OneByteTable → (ℕ → ℕ) → Bool
agrees table f = every (same table f) 0 codes

pub agree : (table : OneByteTable) (f : ℕ → ℕ) → T (agrees table f) → (c : ℕ) → c < 256 → one_byte_at table c ≡ f c
agree table f t c h = eqb→eq (one_byte_at table c) (f c) (at 0 (same table f) codes t c h)

-- a code below 21 reads as no character
pub under : (table : OneByteTable) (c : ℕ) → c < 0x21 → one_byte_at table c ≡ 0
unfolding one_byte_at
under table c h = rw (lt-ltb c 0x21 h)

-- the full-width table reads as the full-width form of the alphanumeric at the code
pub fullwidth_at : (c : ℕ) → fullwidth_of (one_byte_at Alphanumeric c) ≡ one_byte_at Fullwidth c
unfolding one_byte_at
fullwidth_at c = go (ltb c 0x21) refl
  where
    go : (b : Bool) → ltb c 0x21 ≡ b → fullwidth_of (cond b 0 (get_or alphanumeric_table (c - 0x21) 0)) ≡ cond b 0 (get_or (map fullwidth_of alphanumeric_table) (c - 0x21) 0)
    go true e = refl
    go false e = sym (get_or-map fullwidth_of alphanumeric_table (c - 0x21) 0)

-- a code from 21 on reads as the table's place
pub code_reads : (table : OneByteTable) (c : ℕ) → 0x21 ≤ c → one_byte_at table c ≡ get_or (table_of table) (c - 0x21) 0
unfolding one_byte_at
code_reads table c h = rw (le-ltb c 0x21 h)
