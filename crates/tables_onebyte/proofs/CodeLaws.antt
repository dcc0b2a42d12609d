-- A rule that agrees with a table answers as the table's reverse look-up does. Assumes nothing.
use mathlib.Core.Path.{◌≡◌, refl, sym, ◌∙◌}
use mathlib.Core.Bool.{Bool, true, false, not}
use mathlib.Core.Option.{Option, none, some}
use Prim.Native.Nat.{ℕ, ◌+◌, ◌-◌, ◌<◌, ◌≤◌}
use native.Mathlib.Omega.{arith}
use lib.Dec.{T, eqb, leb, ltb}
use lib.ListN.{length, get_or, get_or-eq_default}
use borrow.Author.Tests.{ltb-true, ltb-false, leb-true, le-leb, eq-eqb, ne_eqb, eqb-false}
use Rattle.base.proofs.Table.{every, at}
use Rattle.tables_onebyte.specs.OneByte.{table_of, one_byte_at}
use Rattle.tables_onebyte.specs.Reverse.{one_byte_reverse}
use Rattle.tables_onebyte.specs.Promises.{run_at, alphanumeric_at, kana_at, signs, KanaFits, Reads, Inverse}
use Rattle.tables_onebyte.specs.declared.OneByteTable.{OneByteTable}
use Rattle.tables_onebyte.specs.declared.OneByteTable.TheVariants.{Alphanumeric, Fullwidth, Hiragana, Katakana, JisX0201Katakana}
use Rattle.tables_onebyte.specs.declared.Kana.{Kana}
use Rattle.tables_onebyte.proofs.OneByteLaws.{agrees, agree, code_reads}
use Rattle.tables_onebyte.proofs.Laws.{first_is, code_again, one_byte_found}

-- every character of a table stands there once
once : (table : OneByteTable) → T (every (first_is table) 0 (table_of table))
unfolding first_is
once Alphanumeric = tt
once Fullwidth = tt
once Hiragana = tt
once Katakana = tt
once JisX0201Katakana = tt

module _ (table : OneByteTable) (f : ℕ → ℕ) (a : T (agrees table f)) (c : ℕ) where
  -- a code that reads as a character is inside the table
  inside : (code : ℕ) → 0x21 ≤ code → 1 ≤ c → one_byte_at table code ≡ c → code - 0x21 < length (table_of table)
  inside code l n e = go (ltb (code - 0x21) (length (table_of table))) refl
    where
      go : (b : Bool) → ltb (code - 0x21) (length (table_of table)) ≡ b → code - 0x21 < length (table_of table)
      go true q = ltb-true (code - 0x21) (length (table_of table)) q
      go false q =
          let z : c ≡ 0 = sym e ∙ code_reads table code l ∙ get_or-eq_default (table_of table) 0 (ltb-false (code - 0x21) (length (table_of table)) q) in
          absurd (omega arith)

  pub inverse : (r : Option ℕ) → Inverse f c r → r ≡ one_byte_reverse table c
  inverse (some code) p =
      let l = p.from in
      let h = p.to in
      let n = p.character in
      let e = agree table f a code (omega arith) ∙ p.reads in
      sym (code_again table (once table) c code (λ z. omega arith) l (inside code l n e) e)
  inverse none p = go (one_byte_reverse table c) refl
    where
      go : (r : Option ℕ) → one_byte_reverse table c ≡ r → none ≡ one_byte_reverse table c
      go none q = sym q
      go (some code) q =
          let x = one_byte_found table c code q in
          let h = x.to in
          absurd (x.character (p code (sym (agree table f a code (omega arith)) ∙ x.reads)))

-- a character that a rule has at a code of its own
pub key : (f : ℕ → ℕ) (c code : ℕ) → 0x21 ≤ code → code ≤ 0x7E → 1 ≤ f code → c ≡ f code → Reads f c code
key f c code a b n e = record { from = a; to = b; character = omega arith; reads = sym e }

-- ---- a run

module _ (first last code : ℕ) where
  pub run_in : 0x21 ≤ code → code ≤ last → run_at first last code ≡ first + (code - 0x21)
  unfolding run_at
  run_in a b = rw (le-leb 0x21 code a, le-leb code last b)

  -- outside of the run there is no character
  pub run_out : (c : ℕ) → (0x21 ≤ code → code ≤ last → first + (code - 0x21) ≡ c → ⊥) → run_at first last code ≡ c → c ≡ 0
  unfolding run_at
  run_out c n e = go (leb 0x21 code) (leb code last) refl refl
    where
      go : (a b : Bool) → leb 0x21 code ≡ a → leb code last ≡ b → c ≡ 0
      go true true p q = let i = leb-true 0x21 code p in let j = leb-true code last q in absurd (n i j (sym (run_in i j) ∙ e))
      go true false p q = sym (rw (p, q) at e)
      go false b p q = sym (rw p at e)

  -- and a character is inside it
  pub run_to : (c : ℕ) → 1 ≤ c → run_at first last code ≡ c → (0x21 ≤ code) × (code ≤ last)
  unfolding run_at
  run_to c n e = go (leb 0x21 code) (leb code last) refl refl
    where
      go : (a b : Bool) → leb 0x21 code ≡ a → leb code last ≡ b → (0x21 ≤ code) × (code ≤ last)
      go true true p q = (leb-true 0x21 code p, leb-true code last q)
      go true false p q = let z : 0 ≡ c = rw (p, q) at e in absurd (omega arith)
      go false b p q = let z : 0 ≡ c = rw p at e in absurd (omega arith)

-- ---- the alphanumeric set

pub off_yen : (first yen code : ℕ) → (code ≡ 0x5C → ⊥) → alphanumeric_at first yen code ≡ run_at first 0x7E code
unfolding alphanumeric_at
off_yen first yen code n = rw (ne_eqb code 0x5C n)

module _ (first yen c : ℕ) (n : c ≡ yen → ⊥) where
  yen_or_run : (code : ℕ) → alphanumeric_at first yen code ≡ c → (code ≡ 0x5C → ⊥) × (run_at first 0x7E code ≡ c)
  unfolding alphanumeric_at
  yen_or_run code e = go (eqb code 0x5C) refl
    where
      go : (b : Bool) → eqb code 0x5C ≡ b → (code ≡ 0x5C → ⊥) × (run_at first 0x7E code ≡ c)
      go true q = absurd (n (sym (rw q at e)))
      go false q = (eqb-false code 0x5C q, rw q at e)

  -- the run's place at 5C is not the set's
  pub no_solidus : c ≡ first + 0x3B → Inverse (alphanumeric_at first yen) c none
  no_solidus s code e = let p = yen_or_run code e in run_out first 0x7E code c (λ a b w. p.0 (omega arith)) p.1

  pub alphanumeric_run : (c ≡ first + 0x3B → ⊥) → (r : Option ℕ) → Inverse (run_at first 0x7E) c r → Inverse (alphanumeric_at first yen) c r
  alphanumeric_run s (some code) p =
      let i = run_to first 0x7E code c p.character p.reads in
      let w = sym (run_in first 0x7E code i.0 i.1) ∙ p.reads in
      record { from = p.from; to = p.to; character = p.character; reads = off_yen first yen code (λ q. s (omega arith)) ∙ p.reads }
  alphanumeric_run s none p = λ code e. p code (yen_or_run code e).1

-- ---- the kana sets

-- is a number another than c?
abbrev other : ℕ → ℕ → ℕ → Bool
other c i x = not (eqb x c)

-- what is none of the signs is at none of their places
pub no_sign : (iteration c : ℕ) → T (every (other c) 0 (signs iteration)) → (k : ℕ) → get_or (signs iteration) k 0 ≡ c → c ≡ 0
no_sign iteration c t k e = go (ltb k 8) refl
  where
    go : (b : Bool) → ltb k 8 ≡ b → c ≡ 0
    go true q = absurd (rw (eq-eqb (get_or (signs iteration) k 0) c e) at (at 0 (other c) (signs iteration) t k (ltb-true k 8 q)))
    go false q = sym e ∙ get_or-eq_default (signs iteration) 0 (ltb-false k 8 q)

step : (n code : ℕ) → n ≤ code → (code ≡ n → ⊥) → n + 1 ≤ code
step n code h e = omega arith

module _ (kana : Kana) (fits : KanaFits kana) where
  -- a code that is none of the signs' is the run's
  off_them : (code : ℕ) → (0x77 ≤ code → 0x7F ≤ code) → kana_at kana code ≡ run_at kana.first kana.last code
  unfolding kana_at
  off_them code h = go (leb 0x77 code) refl
    where
      go : (b : Bool) → leb 0x77 code ≡ b → kana_at kana code ≡ run_at kana.first kana.last code
      go false q = rw q
      go true q =
          let n = h (leb-true 0x77 code q) in
          let l = fits.last_to in
          let z : 8 ≤ code - 0x77 = omega arith in
          rw q (get_or-eq_default (signs kana.iteration) 0 z ∙ sym (run_out kana.first kana.last code _ (λ a b w. omega arith) refl))

  pub off_signs : (code : ℕ) → (code ≡ 0x77 → ⊥) → (code ≡ 0x78 → ⊥) → (code ≡ 0x79 → ⊥) → (code ≡ 0x7A → ⊥) → (code ≡ 0x7B → ⊥) → (code ≡ 0x7C → ⊥) → (code ≡ 0x7D → ⊥)
      → (code ≡ 0x7E → ⊥) → kana_at kana code ≡ run_at kana.first kana.last code
  off_signs x n0 n1 n2 n3 n4 n5 n6 n7 =
      off_them x
      (λ h. step 0x7E x (step 0x7D x (step 0x7C x (step 0x7B x (step 0x7A x (step 0x79 x (step 0x78 x (step 0x77 x h n0) n1) n2) n3) n4) n5) n6) n7)

  -- a code with a character of the run is none of the signs'
  pub in_run : (code : ℕ) → (run_at kana.first kana.last code ≡ 0 → ⊥) → run_at kana.first kana.last code ≡ kana_at kana code
  in_run code n =
      let i = run_to kana.first kana.last code (run_at kana.first kana.last code) (omega (arith, n)) refl in
      let j = i.1 in
      let l = fits.last_to in
      sym (off_them code (λ h. omega arith))

  pub kana_run : (c : ℕ) → ((k : ℕ) → get_or (signs kana.iteration) k 0 ≡ c → c ≡ 0) → (r : Option ℕ) → Inverse (run_at kana.first kana.last) c r → Inverse (kana_at kana) c r
  unfolding kana_at
  kana_run c s (some code) p =
      let i = run_to kana.first kana.last code c p.character p.reads in
      let j = i.1 in
      let l = fits.last_to in
      record { from = p.from; to = p.to; character = p.character; reads = off_them code (λ h. omega arith) ∙ p.reads }
  kana_run c s none p = sign_or_run
    where
      sign_or_run : (code : ℕ) → kana_at kana code ≡ c → c ≡ 0
      sign_or_run code e = go (leb 0x77 code) refl
        where
          go : (b : Bool) → leb 0x77 code ≡ b → c ≡ 0
          go true q = s (code - 0x77) (rw q at e)
          go false q = p code (rw q at e)
