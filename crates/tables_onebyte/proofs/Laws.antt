-- What the one-byte reverse look-ups find, for the crates above: the first code that reads as the character, and nothing
-- only where no code does. Assumes nothing.
use mathlib.Core.Path.{◌≡◌, refl, sym, ap, ◌∙◌, subst}
use mathlib.Core.Bool.{Bool, true, false, not, ◌||◌}
use mathlib.Core.Option.{Option, none, some}
use Prim.Native.Nat.{ℕ, ◌+◌, ◌-◌, ◌<◌, ◌≤◌}
use native.Mathlib.Omega.{arith}
use lib.Dec.{T, eqb, ltb, eqb→eq}
use lib.ListN.{length, get_or}
use borrow.Author.Tests.{ne_eqb, ltb-true, ltb-false}
use Rattle.base.specs.First.{first}
use Rattle.base.proofs.Table.{every, at}
use Rattle.base.proofs.FirstLaws.{First, first_some, first_none}
use Rattle.tables_onebyte.specs.OneByte.{table_of, one_byte_at, fullwidth_of}
use Rattle.tables_onebyte.specs.Reverse.{number, code_of, one_byte_reverse}
use Rattle.tables_onebyte.specs.declared.OneByteTable.{OneByteTable}
use Rattle.tables_onebyte.specs.declared.OneByteTable.TheVariants.{Alphanumeric, Fullwidth}
use Rattle.tables_onebyte.proofs.OneByteLaws.{code_reads, under, fullwidth_at}

-- A reverse look-up in a one-byte table: c is read at the code, and at none before it.
pub record FirstCode (table : OneByteTable) (c code : ℕ) : Type 0 where
  pub character : c ≡ 0 → ⊥
  pub from : 0x21 ≤ code
  pub to : code ≤ 0x7E
  pub reads : one_byte_at table code ≡ c
  pub earlier : (d : ℕ) → d < code → one_byte_at table d ≡ c → ⊥

-- a code below 21 reads as no character, one from 21 on as the table's place
place_read : (table : OneByteTable) (c d : ℕ) → (c ≡ 0 → ⊥) → one_byte_at table d ≡ c → (0x21 ≤ d) × (get_or (table_of table) (d - 0x21) 0 ≡ c)
place_read table c d h r = go (ltb d 0x21) refl
  where
    go : (b : Bool) → ltb d 0x21 ≡ b → (0x21 ≤ d) × (get_or (table_of table) (d - 0x21) 0 ≡ c)
    go true e = absurd (h (sym r ∙ under table d (ltb-true d 0x21 e)))
    go false e = (ltb-false d 0x21 e, sym (code_reads table d (ltb-false d 0x21 e)) ∙ r)

pub one_byte_found : (table : OneByteTable) (c code : ℕ) → one_byte_reverse table c ≡ some code → FirstCode table c code
unfolding one_byte_reverse code_of
one_byte_found table c code e = go (first number 94 c (table_of table)) refl e
  where
    at_code : (k : ℕ) → First number 94 c (table_of table) k → k + 0x21 ≡ code → FirstCode table c code
    at_code k p q =
        let h = p.inside in
        let d : k ≡ code - 0x21 = omega arith in
        record {
          character = p.character;
          from = omega arith;
          to = omega arith;
          reads = code_reads table code (omega arith) ∙ subst (λ (m : ℕ). get_or (table_of table) m 0 ≡ c) d p.reads;
          earlier = λ x l w. let r = place_read table c x p.character w in p.earlier (x - 0x21) (omega arith) r.1;
        }

    go : (o : Option ℕ) → first number 94 c (table_of table) ≡ o → code_of o ≡ some code → FirstCode table c code
    go none q z = absurd (let w : ◌≡◌ {A = ℕ} 0 1 = cc in omega arith)
    go (some k) q z = at_code k (first_some number 94 c (table_of table) k q) (cc)

pub one_byte_nothing : (table : OneByteTable) (c : ℕ) → (c ≡ 0 → ⊥) → one_byte_reverse table c ≡ none → (code : ℕ) → code ≤ 0x7E → one_byte_at table code ≡ c → ⊥
unfolding one_byte_reverse code_of
one_byte_nothing table c h e code b w = go (first number 94 c (table_of table)) refl e
  where
    go : (o : Option ℕ) → first number 94 c (table_of table) ≡ o → code_of o ≡ none → ⊥
    go none q z = let r = place_read table c code h w in first_none number 94 c (table_of table) h q (code - 0x21) (omega arith) r.1
    go (some k) q z = let v : ◌≡◌ {A = ℕ} 0 1 = cc in omega arith

-- `half` answers the code whose full-width form is c
pub half_found : (c code : ℕ) → one_byte_reverse Fullwidth c ≡ some code → fullwidth_of (one_byte_at Alphanumeric code) ≡ c
half_found c code e = fullwidth_at code ∙ (one_byte_found Fullwidth c code e).reads

-- is it place k that was found?
abbrev is_place : Option ℕ → ℕ → Bool
is_place none k = false
is_place (some j) k = eqb j k

-- is place k of a table the first to read as x, if x is a character?
unfoldable pub first_is : OneByteTable → ℕ → ℕ → Bool
unfolding first table_of
first_is table k x = eqb x 0 || is_place (first number 94 x (table_of table)) k

found_again : (table : OneByteTable) (k x : ℕ) → (x ≡ 0 → ⊥) → T (first_is table k x) → first number 94 x (table_of table) ≡ some k
unfolding first_is
found_again table k x h t = go (first number 94 x (table_of table)) refl (rw (ne_eqb x 0 h) at t)
  where
    go : (o : Option ℕ) → first number 94 x (table_of table) ≡ o → T (is_place o k) → first number 94 x (table_of table) ≡ some k
    go none q z = absurd z
    go (some j) q z = q ∙ ap some (eqb→eq j k z)

-- Where every character of a table stands there once, which one test of the table says, the look-up answers the code at which it stands.
pub code_again : (table : OneByteTable) → T (every (first_is table) 0 (table_of table)) → (c code : ℕ) → (c ≡ 0 → ⊥) → 0x21 ≤ code → code - 0x21 < length (table_of table)
    → one_byte_at table code ≡ c → one_byte_reverse table c ≡ some code
unfolding one_byte_reverse code_of
code_again table t c code h a b e =
    let k = code - 0x21 in
    let q : k + 0x21 ≡ code = omega arith in
    let r : get_or (table_of table) k 0 ≡ c = sym (code_reads table code a) ∙ e in
    ap code_of (found_again table k c h (subst (λ (x : ℕ). T (first_is table k x)) r (at 0 (first_is table) (table_of table) t k b)))
    ∙ ap some q

abbrev is_some : ℕ → ℕ → Bool
is_some k x = not (eqb x 0)

-- The full-width forms of the 94 alphanumerics are distinct: `half` answers the code of each.
pub half_again : (code : ℕ) → 0x21 ≤ code → code ≤ 0x7E → one_byte_reverse Fullwidth (fullwidth_of (one_byte_at Alphanumeric code)) ≡ some code
unfolding first_is
half_again code a b = code_again Fullwidth tt (fullwidth_of (one_byte_at Alphanumeric code)) code none_0 a (omega arith) (sym (fullwidth_at code))
  where
    none_0 : fullwidth_of (one_byte_at Alphanumeric code) ≡ 0 → ⊥
    none_0 z =
        let r = sym (code_reads Fullwidth code a) ∙ sym (fullwidth_at code) ∙ z in
        subst (λ (x : ℕ). T (is_some 0 x)) r (at 0 is_some (table_of Fullwidth) tt (code - 0x21) (omega arith))
