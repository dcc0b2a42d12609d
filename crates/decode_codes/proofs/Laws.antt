-- The definitions of reading/specs/Characters by cases: what reading a code and writing its character have in common. Assumes nothing.
use Prim.Native.Nat.{ℕ, zero, suc, ◌+◌, ◌-◌, ◌*◌, ◌/◌, ◌%◌, ◌≤◌, ◌<◌}
use mathlib.Core.Path.{◌≡◌, refl, sym, ap, ◌∙◌}
use mathlib.Core.Bool.{Bool, true, false, cond, ◌&&◌, ◌||◌}
use mathlib.Core.List.{List}
use native.Mathlib.Omega.{arith}
use borrow.Author.Tests.{eqb-true, leb-true, ne_eqb, lt-leb}
use lib.Dec.{eqb, leb}
use lib.ListN.{length, drop, get_or}
use Rattle.sets.specs.Sets.{bytes_per_char}
use Rattle.addsym.specs.Symbols.{symbol}
use Rattle.tables_onebyte.specs.OneByte.{fullwidth_of, one_byte_at}
use Rattle.tables.specs.Kanji.{kanji_at}
use Rattle.tables_onebyte.specs.declared.OneByteTable.TheVariants.{Alphanumeric}
use Rattle.issues.specs.declared.IssueKind.{IssueKind}
use Rattle.issues.specs.declared.IssueKind.TheVariants.{UndefinedCode, UnsupportedCode, Drcs}
use Rattle.decode_output.specs.Output.{emit}
use Rattle.reading.specs.State.{Given, State, took, placeholder, writes, is_narrow}
use Rattle.reading.specs.Macros.{Run}
use Rattle.reading.specs.Characters.{is_graphic, emit_or, cell_or, char1, char2, letter, graphic2, graphic_of}
use Rattle.tables_onebyte.proofs.OneByteLaws.{fullwidth_at}
use Rattle.decode_state.proofs.Steps.{drop_one}
use Rattle.decode_codes.specs.Codes.{cell_at, issue_of}

-- ---- a character

pub emit_some : (kind : IssueKind) (at : ℕ) (s : State) (c : ℕ) → (c ≡ 0 → ⊥) → writes (emit c) s ≡ emit_or kind c at s
unfolding emit_or
emit_some kind at s zero h = absurd (h refl)
emit_some kind at s (suc c) h = refl

-- ---- bytes of GL and GR

pub and_left : (u v : Bool) → (u && v) ≡ true → u ≡ true
and_left true v e = refl
and_left false v e = e

and_right : (u v : Bool) → (u && v) ≡ true → v ≡ true
and_right true v e = e
and_right false v e = let z : ◌≡◌ {A = ℕ} 0 1 = cc in absurd (omega arith)

pub record InArea (x : ℕ) : Type 0 where
  pub low : 0x21 ≤ x % 128
  pub high : x % 128 ≤ 0x7E

pub in_area : (x : ℕ) → x < 256 → is_graphic x ≡ true → InArea x
unfolding is_graphic
in_area x h e = go (leb 0x21 x && leb x 0x7E) refl e
  where
    go : (u : Bool) → (leb 0x21 x && leb x 0x7E) ≡ u → (u || (leb 0xA1 x && leb x 0xFE)) ≡ true → InArea x
    go true q k =
        let a : 0x21 ≤ x = leb-true 0x21 x (and_left (leb 0x21 x) (leb x 0x7E) q) in
        let b : x ≤ 0x7E = leb-true x 0x7E (and_right (leb 0x21 x) (leb x 0x7E) q) in
        record { low = omega arith; high = omega arith }
    go false q k =
        let a : 0xA1 ≤ x = leb-true 0xA1 x (and_left (leb 0xA1 x) (leb x 0xFE) k) in
        let b : x ≤ 0xFE = leb-true x 0xFE (and_right (leb 0xA1 x) (leb x 0xFE) k) in
        record { low = omega arith; high = omega arith }

-- ---- two-byte sets

module _ (z a b at : ℕ) (s : State) where
  -- by the tests for the sets 0, 14, 12 and 16, of which the last two are not both met
  by_set : (k y : ℕ) (p q r t : Bool) → (r ≡ true → t ≡ true → ⊥)
      → cell_or (cond (p || q) (UndefinedCode z (a * 256 + b)) (cond t (Drcs 0 (a * 256 + b)) (UnsupportedCode z (a * 256 + b)))) (cond p k (cond q y (cond r k 0))) at s
      ≡ cond p (cell_or (UndefinedCode z (a * 256 + b)) k at s)
      (cond q (cell_or (UndefinedCode z (a * 256 + b)) y at s)
      (cond r (cell_or (UnsupportedCode z (a * 256 + b)) k at s)
      (cond t (placeholder at (Drcs 0 (a * 256 + b)) s)
      (placeholder at (UnsupportedCode z (a * 256 + b)) s))))
  unfolding cell_or
  by_set k y true q r t f = refl
  by_set k y false true r t f = refl
  by_set k y false false true true f = absurd (f refl refl)
  by_set k y false false true false f = refl
  by_set k y false false false true f = refl
  by_set k y false false false false f = refl

  pub char2_as : (g : Given) {cells : List ℕ} → g.cells ≡ cells → cell_or (issue_of z (a * 256 + b)) (cell_at cells z (a - 0x20) (b - 0x20)) at s ≡ char2 g z a b at s
  unfolding char2 cell_at issue_of
  char2_as g e =
      let row = a - 0x20 in
      let cell = b - 0x20 in
      let apart : (eqb z 12 && leb row 84) ≡ true → eqb z 16 ≡ true → ⊥ =
      λ p q. let z-12 = eqb-true z 12 (and_left (eqb z 12) (leb row 84) p) in let z-16 = eqb-true z 16 q in omega (arith, z-12, z-16) in
      ap (λ (l : List ℕ). cell_or (issue_of z (a * 256 + b)) (cell_at l z row cell) at s) (sym e)
      ∙ by_set (kanji_at g.cells row cell) (symbol row cell) (eqb z 0) (eqb z 14) (eqb z 12 && leb row 84) (eqb z 16) apart

-- ---- one-byte sets

module _ (g : Given) (left : ℕ) (R : Run) (z c at : ℕ) (s : State) (h : z ≡ 15 → ⊥) where
  mosaic_not : (4 ≤ z → 7 < z) → (leb 4 z && leb z 7) ≡ false
  mosaic_not f = go (leb 4 z) refl
    where
      go : (u : Bool) → leb 4 z ≡ u → (u && leb z 7) ≡ false
      go true e = lt-leb z 7 (f (leb-true 4 z e))
      go false e = refl

  pub char1_letter : (4 ≤ z → 7 < z) → z < 17 → emit_or (UndefinedCode z c) (letter (is_narrow g s) z c) at s ≡ char1 g left R z c at s
  unfolding char1
  char1_letter f q = rw (ne_eqb z 15 h, mosaic_not f, lt-leb 17 z q)

module _ (narrow : Bool) (c : ℕ) where
  pub letter_narrow : narrow ≡ true → one_byte_at Alphanumeric c ≡ letter narrow 1 c
  unfolding letter
  letter_narrow e = rw e

  pub letter_wide : narrow ≡ false → fullwidth_of (one_byte_at Alphanumeric c) ≡ letter narrow 1 c
  unfolding letter
  letter_wide e = rw e (fullwidth_at c)

-- ---- steps

module _ (g : Given) (z x : ℕ) (b : List ℕ) (j at : ℕ) (s : State) where
  pub graphic2_pair : j < length b → (is_graphic (get_or b j 0) && eqb (x / 128) (get_or b j 0 / 128)) ≡ true
      → graphic2 g z x (drop j b) at s ≡ took 2 (char2 g z (x % 128) (get_or b j 0 % 128) at s)
  unfolding graphic2
  graphic2_pair h e = rw (drop_one b j h) (rw e)

module _ (g : Given) (left : ℕ) (R : Run) (z x : ℕ) (rest : List ℕ) (at : ℕ) (s : State) where
  pub graphic_two : eqb (bytes_per_char z) 2 ≡ true → graphic2 g z x rest at s ≡ graphic_of g left R z x rest at s
  unfolding graphic_of
  graphic_two e = rw e

  pub graphic_one : eqb (bytes_per_char z) 2 ≡ false → graphic_of g left R z x rest at s ≡ took 1 (char1 g left R z (x % 128) at s)
  unfolding graphic_of
  graphic_one e = rw e
