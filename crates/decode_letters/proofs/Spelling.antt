-- What a step does at a character that is written as it stands. Assumes nothing.
use Prim.Native.Nat.{ℕ, ◌+◌, ◌-◌, ◌*◌, ◌/◌, ◌%◌, ◌≤◌, ◌<◌}
use mathlib.Core.Path.{◌≡◌, refl, sym, ap, subst, ◌∙◌}
use mathlib.Core.Bool.{Bool, true, false, cond, ◌&&◌, ◌||◌}
use mathlib.Core.List.{List, [], ◌∷◌, ◌++◌}
use native.Mathlib.Omega.{arith}
use borrow.Author.Tests.{eqb-true, leb-true, ltb-true, ltb-false, eq-eqb, ne_eqb, le-leb, lt-leb}
use lib.Dec.{T, eqb, leb, ltb}
use lib.ListN.{length, drop, get_or, set, replicate}
use lib.Seq.{sets}
use Rattle.base.proofs.Table.{every, at}
use Rattle.sets.specs.Sets.{bytes_per_char}
use Rattle.tables_onebyte.specs.OneByte.{one_byte_at}
use Rattle.tables.specs.Kanji.{non_spacing, has_character, kanji_at}
use Rattle.tables_onebyte.specs.declared.OneByteTable.{OneByteTable}
use Rattle.tables_onebyte.specs.declared.OneByteTable.TheVariants.{Alphanumeric, Fullwidth, Hiragana, Katakana, JisX0201Katakana}
use Rattle.issues.specs.declared.IssueKind.{IssueKind}
use Rattle.issues.specs.declared.IssueKind.TheVariants.{UndefinedCode}
use Rattle.decode_output.specs.Output.{Output, times, emit, newline}
use Rattle.decode_output.proofs.Held.{release_none}
use Rattle.reading.specs.State.{Given, State, took, writes, is_narrow}
use Rattle.reading.specs.Macros.{Run}
use Rattle.reading.specs.Characters.{is_gl, is_gr, is_graphic, emit_or, cell_or, letter, graphic_of, graphic}
use Rattle.reading.specs.Steps.{step, control0, space}
use Rattle.utf8.specs.Utf8.{utf8}
use Rattle.utf8.proofs.Bytes.{row1, row2, row3, length_utf8}
use Rattle.tables.proofs.KanjiLaws.{on_grid_lem, rows_3_89}
use Rattle.tables.proofs.MarkLaws.{no_mark}
use Rattle.private_use.specs.PrivateUse.{is_private_use}
use Rattle.private_use.proofs.Laws.{below}
use Rattle.tables.specs.declared.Cell.{Cell}
use Rattle.tables.specs.declared.Cell.TheVariants.{Char, PrivateUse, Undefined}
use Rattle.decode_codes.specs.Codes.{cell_at, issue_of}
use Rattle.decode_codes.proofs.Letters.{letter_ordinary}
use Rattle.decode_codes.proofs.Laws.{in_area, emit_some, char2_as, char1_letter, graphic2_pair, graphic_two, graphic_one}
use Rattle.decode_letters.specs.declared.Invoked.{Invoked}
use Rattle.decode_letters.specs.Promises.{Pair, PairReads, Ideograph, Sees, Spells, Reads, Takes}

-- ---- a byte of GL or GR reads through the set there

abbrev set_in : State → ℕ → ℕ
set_in s x = cond (ltb x 128) (get_or s.sets s.gl 0) (get_or s.sets s.gr 0)

module _ (x : ℕ) (low : 0x21 ≤ x % 128) (high : x % 128 ≤ 0x7E) (byte : x < 256) where
  gl_is : x < 128 → is_gl x ≡ true
  unfolding is_gl
  gl_is h = let a : 0x21 ≤ x = omega arith in let b : x ≤ 0x7E = omega arith in rw (le-leb 0x21 x a, le-leb x 0x7E b)

  gl_not : 128 ≤ x → is_gl x ≡ false
  unfolding is_gl
  gl_not h = let a : 0x21 ≤ x = omega arith in let b : 0x7E < x = omega arith in rw (le-leb 0x21 x a, lt-leb x 0x7E b)

  gr_is : 128 ≤ x → is_gr x ≡ true
  unfolding is_gr
  gr_is h = let a : 0xA1 ≤ x = omega arith in let b : x ≤ 0xFE = omega arith in rw (le-leb 0xA1 x a, le-leb x 0xFE b)

  pub graphic_is : is_graphic x ≡ true
  unfolding is_graphic
  graphic_is = go (ltb x 128) refl
    where
      go : (u : Bool) → ltb x 128 ≡ u → (is_gl x || is_gr x) ≡ true
      go true e = rw (gl_is (ltb-true x 128 e))
      go false e = rw (gl_not (ltb-false x 128 e)) (gr_is (ltb-false x 128 e))

  step_graphic : (g : Given) (left : ℕ) (R : Run) (rest : List ℕ) (place at : ℕ) (s : State) → step g left R x rest place at s ≡ graphic_of g left R (set_in s x) x rest at s
  unfolding step graphic
  step_graphic g left R rest place at s = go (ltb x 128) refl
    where
      go : (u : Bool) → ltb x 128 ≡ u → step g left R x rest place at s ≡ graphic_of g left R (cond u (get_or s.sets s.gl 0) (get_or s.sets s.gr 0)) x rest at s
      go true e = rw (gl_is (ltb-true x 128 e))
      go false e = rw (gl_not (ltb-false x 128 e), gr_is (ltb-false x 128 e))

-- ---- letters

-- a one-byte set of letters
pub record LetterSet (z : ℕ) : Type 0 where
  pub one : eqb (bytes_per_char z) 2 ≡ false
  pub macro : z ≡ 15 → ⊥
  pub mosaic : 4 ≤ z → 7 < z
  pub drcs : z < 17

-- a letter l at the code c of the set z
pub record Letter (z c l : ℕ) : Type 0 where
  pub of : LetterSet z
  pub low : 0x21 ≤ c
  pub high : c ≤ 0x7E
  pub small : l < 0x10000

letter_set : {z : ℕ} (k : ℕ) → eqb (bytes_per_char k) 2 ≡ false → k ≤ 11 → (4 ≤ k → 7 < k) → z ≡ k → LetterSet z
letter_set k a b f e =
    record {
      one = ap (λ (n : ℕ). eqb (bytes_per_char n) 2) e ∙ a;
      macro = λ q. omega arith;
      mosaic = λ h. let i : 4 ≤ k = omega arith in let j : 7 < k = f i in omega arith;
      drcs = omega arith;
    }

-- at the code c the table has no character, or c is of GL's area and the character of the Basic Multilingual Plane
abbrev in_plane : OneByteTable → ℕ → ℕ → Bool
in_plane table c x = cond (eqb (one_byte_at table c) 0) true (leb 0x21 c && leb c 0x7E && ltb (one_byte_at table c) 0x10000)

InPlane : OneByteTable → Type 0
InPlane table = T (every (in_plane table) 0 (replicate 128 0))

all_in_plane : (table : OneByteTable) → InPlane table
unfolding one_byte_at InPlane
all_in_plane Alphanumeric = tt
all_in_plane Fullwidth = tt
all_in_plane Hiragana = tt
all_in_plane Katakana = tt
all_in_plane JisX0201Katakana = tt

letter_in : {z : ℕ} (c : ℕ) → c < 128 → LetterSet z → (table : OneByteTable) → (one_byte_at table c ≡ 0 → ⊥) → Letter z c (one_byte_at table c)
unfolding InPlane
letter_in {z} c h p table f =
    go (leb 0x21 c) refl (leb c 0x7E) refl (ltb (one_byte_at table c) 0x10000) refl (rw (ne_eqb _ 0 f) at (at 0 (in_plane table) (replicate 128 0) (all_in_plane table) c h))
  where
    go : (a : Bool) → leb 0x21 c ≡ a → (b : Bool) → leb c 0x7E ≡ b → (d : Bool) → ltb (one_byte_at table c) 0x10000 ≡ d → T (a && b && d) → Letter z c (one_byte_at table c)
    go true p₁ true p₂ true p₃ t = record { of = p; low = leb-true 0x21 c p₁; high = leb-true c 0x7E p₂; small = ltb-true _ 0x10000 p₃ }
    go true p₁ true p₂ false p₃ t = absurd t
    go true p₁ false p₂ d p₃ t = absurd t
    go false p₁ b p₂ d p₃ t = absurd t

module _ (z c : ℕ) where
  -- of the sets k and m, or of another
  of_sets : (k m a rest : ℕ) → (z ≡ k → (a ≡ 0 → ⊥) → Letter z c a) → (z ≡ m → (a ≡ 0 → ⊥) → Letter z c a) → ((rest ≡ 0 → ⊥) → Letter z c rest)
      → (cond (eqb z k || eqb z m) a rest ≡ 0 → ⊥) → Letter z c (cond (eqb z k || eqb z m) a rest)
  of_sets k m a rest p q r = go (eqb z k) refl (eqb z m) refl
    where
      go : (u : Bool) → eqb z k ≡ u → (v : Bool) → eqb z m ≡ v → (cond (u || v) a rest ≡ 0 → ⊥) → Letter z c (cond (u || v) a rest)
      go true e v i f = p (eqb-true z k e) f
      go false e true i f = q (eqb-true z m i) f
      go false e false i f = r f

  of_set : (k a : ℕ) → (z ≡ k → (a ≡ 0 → ⊥) → Letter z c a) → (cond (eqb z k) a 0 ≡ 0 → ⊥) → Letter z c (cond (eqb z k) a 0)
  of_set k a p = go (eqb z k) refl
    where
      go : (u : Bool) → eqb z k ≡ u → (cond u a 0 ≡ 0 → ⊥) → Letter z c (cond u a 0)
      go true e f = p (eqb-true z k e) f
      go false e f = absurd (f refl)

  of_width : (narrow : Bool) (a b : ℕ) → ((a ≡ 0 → ⊥) → Letter z c a) → ((b ≡ 0 → ⊥) → Letter z c b) → (cond narrow a b ≡ 0 → ⊥) → Letter z c (cond narrow a b)
  of_width true a b p q f = p f
  of_width false a b p q f = q f

  pub letter_found : c < 128 → (narrow : Bool) → (letter narrow z c ≡ 0 → ⊥) → Letter z c (letter narrow z c)
  unfolding letter bytes_per_char
  letter_found h narrow =
      let x : LetterSet z → (table : OneByteTable) → (one_byte_at table c ≡ 0 → ⊥) → Letter z c (one_byte_at table c) = letter_in c h in
      let w : LetterSet z → (cond narrow (one_byte_at Alphanumeric c) (one_byte_at Fullwidth c) ≡ 0 → ⊥) → Letter z c (cond narrow (one_byte_at Alphanumeric c) (one_byte_at Fullwidth c)) =
      λ p. of_width narrow _ _ (x p Alphanumeric) (x p Fullwidth) in
      of_sets 1 8 _ _ (λ e. w (letter_set 1 refl (omega arith) (λ i. omega arith) e)) (λ e. w (letter_set 8 refl (omega arith) (λ i. omega arith) e))
      (of_sets 2 9 _ _ (λ e. x (letter_set 2 refl (omega arith) (λ i. omega arith) e) Hiragana) (λ e. x (letter_set 9 refl (omega arith) (λ i. omega arith) e) Hiragana)
      (of_sets 3 10 _ _ (λ e. x (letter_set 3 refl (omega arith) (λ i. omega arith) e) Katakana) (λ e. x (letter_set 10 refl (omega arith) (λ i. omega arith) e) Katakana)
      (of_set 11 _ (λ e. x (letter_set 11 refl (omega arith) (λ i. omega arith) e) JisX0201Katakana))))

pub letter_of_lem : {z c l : ℕ} (narrow : Bool) → l ≡ letter narrow z c → (l ≡ 0 → ⊥) → c < 128 → Letter z c l
letter_of_lem {z} {c} narrow e f h = subst (Letter z c) (sym e) (letter_found z c h narrow (λ q. f (e ∙ q)))

-- none is private-use
pub letter_plain : (narrow : Bool) (z c : ℕ) {l : ℕ} → l ≡ letter narrow z c → is_private_use l ≡ false
letter_plain narrow z c e = ap is_private_use e ∙ letter_ordinary narrow z c

-- ---- their bytes

pub three_bytes : (c : ℕ) → 0x800 ≤ c → c < 0x10000 → 3 ≡ length (utf8 c)
three_bytes c a b = rw (row3 c a b)

pub two_bytes : (c : ℕ) → c < 0x800 → length (utf8 c) ≤ 2
two_bytes c h = go (ltb c 0x80) refl
  where
    go : (u : Bool) → ltb c 0x80 ≡ u → length (utf8 c) ≤ 2
    go true e = omega (arith, ap length (row1 c (ltb-true c 0x80 e)))
    go false e = omega (arith, ap length (row2 c (ltb-false c 0x80 e) h))

pub one_byte : (c : ℕ) → c < 0x80 → 1 ≡ length (utf8 c)
one_byte c h = rw (row1 c h)

pub put_one : (t : List ℕ) (n c : ℕ) → c < 0x80 → set t n c ≡ sets t n (utf8 c)
put_one t n c h = rw (row1 c h)

-- ---- a character at a place

pub kanji_two : eqb (bytes_per_char 0) 2 ≡ true
unfolding bytes_per_char
kanji_two = refl

module _ (cells b : List ℕ) (j : ℕ) (v : Invoked) {z : ℕ} (byte : get_or b j 0 < 256) (e : z ≡ cond (ltb (get_or b j 0) 128) v.gl v.gr) where
  set_seen : (g : Given) (s : State) → Sees v g s → z ≡ set_in s (get_or b j 0)
  set_seen g s h = e ∙ (λ k. cond (ltb (get_or b j 0) 128) (h.gl k) (h.gr k))

  pub spells_letter : {l : ℕ} → l ≡ letter v.narrow z (get_or b j 0 % 128) → (l ≡ 0 → ⊥) → Letter z (get_or b j 0 % 128) l → Spells cells b j v 1 l
  spells_letter {l} q f w g ce left R place at s h =
      let x = get_or b j 0 in
      let c = x % 128 in
      let p = w.of in
      let i : l ≡ letter (is_narrow g s) z c = q ∙ ap (λ (u : Bool). letter u z c) h.narrow in
      ap (took 1)
      (emit_some (UndefinedCode z c) at s l f ∙ ap (λ (k : ℕ). emit_or (UndefinedCode z c) k at s) i ∙ char1_letter g left R z c at s p.macro p.mosaic p.drcs)
      ∙ sym (graphic_one g left R z x (drop (j + 1) b) at s p.one)
      ∙ ap (λ (k : ℕ). graphic_of g left R k x (drop (j + 1) b) at s) (set_seen g s h)
      ∙ sym (step_graphic x w.low w.high byte g left R (drop (j + 1) b) place at s)

  shown : (kind : IssueKind) (c at : ℕ) (s : State) → has_character non_spacing c ≡ false → (c ≡ 0 → ⊥) → writes (emit c) s ≡ cell_or kind c at s
  unfolding cell_or
  shown kind c at s m f = rw m (emit_some kind at s c f)

  pub spells_pair : {c : ℕ} → eqb (bytes_per_char z) 2 ≡ true → Pair cells b j z c → Spells cells b j v 2 c
  spells_pair {c} two w g ce left R place at s h =
      let x = get_or b j 0 in
      let y = get_or b (j + 1) 0 in
      let area = in_area x byte w.first in
      let kind = issue_of z (x % 128 * 256 + y % 128) in
      ap (took 2) (shown kind c at s w.spacing w.some ∙ ap (λ (n : ℕ). cell_or kind n at s) (sym w.has) ∙ char2_as z (x % 128) (y % 128) at s g ce)
      ∙ sym (graphic2_pair g z x b (j + 1) at s w.two w.second)
      ∙ graphic_two g left R z x (drop (j + 1) b) at s two
      ∙ ap (λ (k : ℕ). graphic_of g left R k x (drop (j + 1) b) at s) (set_seen g s h)
      ∙ sym (step_graphic x area.low area.high byte g left R (drop (j + 1) b) place at s)

-- ---- SP and APR

abbrev SP : ℕ
SP = 0x20

abbrev APR : ℕ
APR = 0x0D

-- where nothing waits, a newline is written as a character is
newline_as : (o : Output) → o.marks ≡ [] → o.marks_at ≡ 0 → o.repeat ≡ 0 → emit 0x0A o ≡ newline o
unfolding emit newline
newline_as o m a r =
    (λ k. record { text = o.text ++ (replicate (times (r k)) 0x0A ++ m k); marks = sym m k; marks_at = sym a k; repeat = sym r k; issues = o.issues })
    ∙ ap (λ (x : Output). record { text = x.text ++ (0x0A ∷ []); marks = x.marks; marks_at = x.marks_at; repeat = x.repeat; issues = x.issues }) (sym (release_none o m))

module _ (cells b : List ℕ) (j : ℕ) (v : Invoked) where
  pub spells_space : {l : ℕ} → get_or b j 0 ≡ SP → l ≡ cond v.narrow 0x20 0x3000 → Spells cells b j v 1 l
  unfolding step is_gl is_gr control0 space
  spells_space e q g ce left R place at s h =
      ap (λ (n : ℕ). took 1 (writes (emit n) s)) (q ∙ ap (λ (u : Bool). cond u 0x20 0x3000) h.narrow)
      ∙ ap (λ (x : ℕ). step g left R x (drop (j + 1) b) place at s) (sym e)

  pub spells_newline : get_or b j 0 ≡ APR → Spells cells b j v 1 0x0A
  unfolding step is_gl is_gr control0 writes
  spells_newline e g ce left R place at s h =
      ap (λ (o : Output). took 1 (writes (λ _. o) s)) (newline_as s.out h.marks h.marks_at h.repeat)
      ∙ ap (λ (x : ℕ). step g left R x (drop (j + 1) b) place at s) (sym e)

-- ---- a character, and its room

pub three_most : (c : ℕ) → c < 0x10000 → length (utf8 c) ≤ 3 * 1
three_most c h = go (ltb c 0x800) refl
  where
    go : (u : Bool) → ltb c 0x800 ≡ u → length (utf8 c) ≤ 3 * 1
    go true e = omega (arith, two_bytes c (ltb-true c 0x800 e))
    go false e = omega (arith, three_bytes c (ltb-false c 0x800 e) h)

module _ (cells b : List ℕ) (j to : ℕ) (v : Invoked) (inside : j < to) where
  module _ {z : ℕ} (byte : get_or b j 0 < 256) (e : z ≡ cond (ltb (get_or b j 0) 128) v.gl v.gr) where
    reads_letter : {l : ℕ} → l ≡ letter v.narrow z (get_or b j 0 % 128) → (l ≡ 0 → ⊥) → Reads cells b j to v 1 l
    reads_letter q f =
        let w = letter_of_lem v.narrow q f (omega arith) in
        record { some = omega arith; within = omega arith; most = three_most _ w.small; spells = spells_letter cells b j v byte e q f w }

    reads_pair : {c : ℕ} → eqb (bytes_per_char z) 2 ≡ true → j + 1 < to → Pair cells b j z c → Reads cells b j to v 2 c
    reads_pair {c} two h w =
        record { some = omega arith; within = omega arith; most = omega (arith, (length_utf8 c).most); spells = spells_pair cells b j v byte e two w }

    pub takes_letter : {l : ℕ} → letter v.narrow z (get_or b j 0 % 128) ≡ l → 1 ≤ l → Takes cells b j to v 1 (Char l)
    takes_letter q f = let i = sym q in (reads_letter i (λ e. omega arith), letter_plain v.narrow z (get_or b j 0 % 128) i)

    pub takes_pair : (x : Cell) → eqb (bytes_per_char z) 2 ≡ true → PairReads cells b j to z x → Takes cells b j to v 2 x
    takes_pair (Char c) two w = (reads_pair two w.0 w.1, w.2)
    takes_pair (PrivateUse c) two w = (reads_pair two w.0 w.1, w.2)
    takes_pair Undefined two w = tt

  low_space : (u : Bool) → cond u 0x20 0x3000 < 0xE000
  low_space true = omega arith
  low_space false = omega arith

  pub takes_space : {l : ℕ} → get_or b j 0 ≡ SP → l ≡ cond v.narrow 0x20 0x3000 → Takes cells b j to v 1 (Char l)
  takes_space {l} e q =
      let h : l < 0xE000 = omega (arith, low_space v.narrow) in
      let k : l < 0x10000 = omega arith in
      (record { some = omega arith; within = omega arith; most = three_most l k; spells = spells_space cells b j v e q }, below l h)

  pub takes_newline : get_or b j 0 ≡ APR → Takes cells b j to v 1 (Char 0x0A)
  takes_newline e = (
    record { some = omega arith; within = omega arith; most = three_most 0x0A (omega arith); spells = spells_newline cells b j v e },
    below 0x0A (omega arith),
  )

-- ---- ideographs

-- the Kanji set's rows 3 to 84, and the place of a cell in the lent table
module _ (cells b : List ℕ) (i : ℕ) (first : get_or b i 0 < 256) (second : get_or b (i + 1) 0 < 256) where
  pub ideograph : let x = get_or b i 0 % 128 in let y = get_or b (i + 1) 0 % 128 in let c = get_or cells ((x - 0x21) * 94 + (y - 0x21)) 0 in i + 1 < length b
      → get_or b i 0 / 128 ≡ get_or b (i + 1) 0 / 128 → 0x23 ≤ x → x ≤ 0x74 → 0x21 ≤ y → y ≤ 0x7E → 0x3000 ≤ c → is_private_use c ≡ false → c < 0x10000
      → Ideograph cells b i c
  unfolding cell_at kanji_at
  ideograph h area a d e f low ordinary high =
      let x = get_or b i 0 % 128 in
      let y = get_or b (i + 1) 0 % 128 in
      let p : x - 0x20 - 1 ≡ x - 0x21 = omega arith in
      let q : y - 0x20 - 1 ≡ y - 0x21 = omega arith in
      record {
        pair =
            record {
              two = h;
              first = graphic_is (get_or b i 0) (omega arith) (omega arith) first;
              second = rw (graphic_is (get_or b (i + 1) 0) e f second) (eq-eqb (get_or b i 0 / 128) (get_or b (i + 1) 0 / 128) area);
              has =
                  rows_3_89 (x - 0x20) (y - 0x20) _ (omega arith) (omega arith)
                  ∙ on_grid_lem cells (x - 0x20) (y - 0x20) (omega arith) (omega arith) (omega arith) (omega arith)
                  ∙ (λ k. get_or cells (p k * 94 + q k) 0);
              some = λ z. omega arith;
              spacing = no_mark _ (λ _. omega arith);
            };
        ordinary = ordinary;
        low = low;
        high = high;
      }
