-- The candidate codes of a character are read as it. Assumes nothing.
use Prim.Native.Nat.{ℕ, zero, suc, ◌+◌, ◌-◌, ◌*◌, ◌%◌, ◌≤◌}
use mathlib.Core.Path.{◌≡◌, refl, sym, ap, ◌∙◌}
use mathlib.Core.Bool.{Bool, true, false, cond, ◌||◌}
use mathlib.Core.List.{List, [], ◌∷◌, ◌++◌, map}
use mathlib.Core.Option.{Option, none, some}
use native.Mathlib.Omega.{arith}
use borrow.Author.Tests.{eqb-true}
use lib.Dec.{eqb}
use lib.ListN.{length}
use Rattle.addsym.specs.Symbols.{symbol}
use Rattle.tables_onebyte.specs.OneByte.{one_byte_at}
use Rattle.tables.specs.Kanji.{non_spacing, has_character, cell_with, kanji_at}
use Rattle.tables_onebyte.specs.Reverse.{one_byte_reverse}
use Rattle.tables_reverse.specs.Reverse.{kanji_reverse, additional_reverse}
use Rattle.tables_onebyte.specs.declared.OneByteTable.{OneByteTable}
use Rattle.tables_onebyte.specs.declared.OneByteTable.TheVariants.{Alphanumeric, Fullwidth, Hiragana, Katakana, JisX0201Katakana}
use Rattle.tables.specs.declared.Assignment.{Assignment}
use Rattle.tables_onebyte.proofs.Laws.{one_byte_found}
use Rattle.tables_reverse.proofs.Laws.{FirstCell, kanji_found, additional_found}
use Rattle.issues.specs.declared.IssueKind.{IssueKind}
use Rattle.issues.specs.declared.IssueKind.TheVariants.{UndefinedCode}
use Rattle.decode_output.specs.Output.{Output, emit, mark, newline}
use Rattle.coding.specs.State.{State}
use Rattle.coding.specs.Candidates.{Size, either, narrow, wide, Cand, graphic, plain, of_code, of_place, fullwidth, letters, candidates}
use Rattle.coding.specs.Admissible.{Sized, Half}
use Rattle.reading.specs.State as reading
use Rattle.reading.specs.Macros.{Run}
use Rattle.reading.specs.Characters.{emit_or, cell_or, char2, letter, graphic2, graphic_of}
use Rattle.reading.specs.Steps.{step}
use Rattle.base.specs.Lists.{All, when}
use Rattle.base.proofs.Every.{all_append}
use Rattle.base.proofs.Tests.{by_test}
use Rattle.laws_readback.proofs.States.{read}
use Rattle.laws_readback.proofs.Halves.{Byte, in_half, whole}

-- what is written where a character is read
unfoldable pub puts : ℕ → ℕ → Output → Output
unfolding has_character mark newline emit
puts c at o = cond (has_character non_spacing c) (mark c at o) (cond (eqb c 10) (newline o) (emit c o))

-- a row and a cell from 1 to 94
abbrev Grid : ℕ → ℕ → Type 0
Grid row cell = (1 ≤ row) × (row ≤ 94) × (1 ≤ cell) × (cell ≤ 94)

-- neither a mark nor a newline
record Letter (c : ℕ) : Type 0 where
  mark : has_character non_spacing c ≡ false
  newline : eqb c 10 ≡ false

module _ (g : reading.Given) (depth : ℕ) (R : Run) (z : reading.State) where
  -- The code a ∷ bs of the set x, in either half and in a state of its size, writes c and nothing else.
  pub record ReadsCode (c x a : ℕ) (bs : List ℕ) (size : Size) : Type 0 where
    pub first : Byte a
    pub reads : (s : State) (h : ℕ) → Sized s size → Half h → (rest : List ℕ) (at : ℕ) (o : Output)
        → graphic_of g depth R x (a + h) (map (λ b. b + h) bs ++ rest) at (read z s o) ≡ reading.took (suc (length bs)) (read z s (puts c at o))

  -- a candidate writes c: a code of a set, or SP or APR
  abbrev pub Reads : ℕ → Cand → Type 0
  Reads c (graphic x [] size) = ⊥
  Reads c (graphic x (a ∷ bs) size) = ReadsCode c x a bs size
  Reads c (plain b size) = (s : State) → Sized s size → (rest : List ℕ) (place at : ℕ) (o : Output) → step g depth R b rest place at (read z s o) ≡ reading.took 1 (read z s (puts c at o))

  -- what reading does with the set x: one of one byte a character, one of two, and a cell of that
  abbrev OneByteSet : ℕ → Type 0
  OneByteSet x =
      (y : ℕ) (rest : List ℕ) (at : ℕ) (s : reading.State) → graphic_of g depth R x y rest at s ≡ reading.took 1
      (emit_or (UndefinedCode x (y % 128)) (letter (reading.is_narrow g s) x (y % 128)) at s)

  abbrev TwoByteSet : ℕ → Type 0
  TwoByteSet x = (y : ℕ) (rest : List ℕ) (at : ℕ) (s : reading.State) → graphic_of g depth R x y rest at s ≡ graphic2 g x y rest at s

  abbrev CellSet : ℕ → (ℕ → ℕ → ℕ) → Type 0
  CellSet x at_cell =
      (row cell at : ℕ) (s : reading.State) → char2 g x (0x20 + row) (0x20 + cell) at s ≡ cell_or (UndefinedCode x ((0x20 + row) * 256 + (0x20 + cell)))
      (at_cell (0x20 + row - 0x20) (0x20 + cell - 0x20)) at s

  one_byte_sets : OneByteSet 1 × OneByteSet 2 × OneByteSet 3 × OneByteSet 11
  unfolding graphic_of
  one_byte_sets = (λ y rest at s. refl, λ y rest at s. refl, λ y rest at s. refl, λ y rest at s. refl)

  two_byte_sets : TwoByteSet 0 × TwoByteSet 14
  unfolding graphic_of
  two_byte_sets = (λ y rest at s. refl, λ y rest at s. refl)

  cell_sets : CellSet 0 (kanji_at g.cells) × CellSet 14 symbol
  unfolding char2
  cell_sets = (λ row cell at s. refl, λ row cell at s. refl)

  -- the sizes
  is_narrow_lem : (s : State) (o : Output) → Sized s narrow → reading.is_narrow g (read z s o) ≡ true
  unfolding reading.is_narrow
  is_narrow_lem s o e = rw e (go g.annex_e)
    where
      go : (b : Bool) → b || true ≡ true
      go true = refl
      go false = refl

  is_wide : g.annex_e ≡ false → (s : State) (o : Output) → Sized s wide → reading.is_narrow g (read z s o) ≡ false
  unfolding reading.is_narrow
  is_wide e s o f = rw (e, f)

  -- SP
  narrow_space : Reads 0x20 (plain 0x20 narrow)
  unfolding step puts
  narrow_space s w rest place at o = rw (is_narrow_lem s o w)

  wide_space : g.annex_e ≡ false → Reads 0x3000 (plain 0x20 wide)
  unfolding step puts
  wide_space e s w rest place at o = rw (is_wide e s o w)

  -- APR
  newline_read : Reads 10 (plain 0x0D either)
  unfolding step puts
  newline_read s w rest place at o = refl

  -- a cell of a two-byte set
  two_byte : (c x : ℕ) (size : Size) (row cell : ℕ) → Grid row cell → TwoByteSet x
      → ((s : State) (at : ℕ) (o : Output) → char2 g x (0x20 + row) (0x20 + cell) at (read z s o) ≡ read z s (puts c at o))
      → Reads c (graphic x ((0x20 + row) ∷ (0x20 + cell) ∷ []) size)
  two_byte c x size row cell h two reads =
      let p : Byte (0x20 + row) = record { from = omega arith; to = omega arith } in
      let q : Byte (0x20 + cell) = record { from = omega arith; to = omega arith } in
      record {
        first = p;
        reads = λ s n w k rest at o.
            let a = in_half (0x20 + row) n p k in
            let b = in_half (0x20 + cell) n q k in
            two (0x20 + row + n) ((0x20 + cell + n) ∷ rest) at (read z s o)
            ∙ whole g x (0x20 + row + n) (0x20 + cell + n) (0x20 + row) (0x20 + cell) rest at (read z s o) b.graphic (a.half ∙ sym b.half) a.code b.code
            ∙ ap (reading.took 2) (reads s at o);
      }

  module _ (c : ℕ) (l : Letter c) where
    -- a letter that was found is emitted
    emit_or_lem : (kind : IssueKind) (at : ℕ) (s : State) (o : Output) → (c ≡ 0 → ⊥) → emit_or kind c at (read z s o) ≡ read z s (puts c at o)
    unfolding emit_or puts
    emit_or_lem kind at s o h = rw (l.mark, l.newline) (go c h)
      where
        go : (d : ℕ) → (d ≡ 0 → ⊥) → emit_or kind d at (read z s o) ≡ read z s (emit d o)
        go zero h = absurd (h refl)
        go (suc d) h = refl

    cell_or_lem : (kind : IssueKind) (at : ℕ) (s : State) (o : Output) → (c ≡ 0 → ⊥) → cell_or kind c at (read z s o) ≡ read z s (puts c at o)
    unfolding cell_or
    cell_or_lem kind at s o h = rw l.mark (emit_or_lem kind at s o h)

    -- a candidate of a one-byte set
    one_byte : (x : ℕ) (size : Size) (table : OneByteTable) → OneByteSet x
        → ((s : State) (o : Output) (b : ℕ) → Sized s size → letter (reading.is_narrow g (read z s o)) x b ≡ one_byte_at table b)
        → All (Reads c) (of_code x size (one_byte_reverse table c))
    unfolding of_code
    one_byte x size table reads sized = go (one_byte_reverse table c) refl
      where
        go : (r : Option ℕ) → one_byte_reverse table c ≡ r → All (Reads c) (of_code x size r)
        go none e = tt
        go (some b) e =
            let f = one_byte_found table c b e in
            let p : Byte b = record { from = f.from; to = f.to } in (
              record {
                first = p;
                reads =
                    λ s h w q rest at o. reads (b + h) rest at (read z s o) ∙
                    rw ((in_half b h p q).code, sized s o b w, f.reads) (ap (reading.took 1) (emit_or_lem (UndefinedCode x b) at s o f.character));
              },
              tt,
            )

    -- a candidate of a two-byte set
    places : (x : ℕ) (size : Size) (at_cell : ℕ → ℕ → ℕ) → TwoByteSet x → CellSet x at_cell
        → (p : Option (ℕ × ℕ)) → ((row cell : ℕ) → p ≡ some (row, cell) → FirstCell at_cell c row cell) → All (Reads c) (of_place x size p)
    unfolding of_place
    places x size at_cell two reads none found = tt
    places x size at_cell two reads (some (row, cell)) found =
        let f = found row cell refl in
        let r : 0x20 + row - 0x20 ≡ row = omega arith in
        let k : 0x20 + cell - 0x20 ≡ cell = omega arith in (
          two_byte c x size row cell (f.row_from, f.row_to, f.cell_from, f.cell_to) two
              (λ s at o. reads row cell at (read z s o) ∙ rw (r, k, f.reads) (cell_or_lem _ at s o f.character)),
          tt,
        )

    fullwidths : (annex_e : Bool) → g.annex_e ≡ annex_e → All (Reads c) (fullwidth annex_e c)
    unfolding fullwidth letter
    fullwidths true e = tt
    fullwidths false e = one_byte 1 wide Fullwidth one_byte_sets.0 (λ s o b w. rw (is_wide e s o w))

    where_it_holds : (k : Cand) (t : Bool) → (t ≡ true → Reads c k) → All (Reads c) (when t k)
    where_it_holds k true f = (f refl, tt)
    where_it_holds k false f = tt

    -- in the order of `letters`
    letters_read : All (Reads c) (letters g.cells g.annex_e c)
    unfolding letters letter
    letters_read =
        all_append (Reads c) (of_code 2 wide (one_byte_reverse Hiragana c)) _ (one_byte 2 wide Hiragana one_byte_sets.1 (λ s o b w. refl))
        (all_append (Reads c) (of_code 3 wide (one_byte_reverse Katakana c)) _ (one_byte 3 wide Katakana one_byte_sets.2 (λ s o b w. refl))
        (all_append (Reads c) (of_code 1 narrow (one_byte_reverse Alphanumeric c)) _ (one_byte 1 narrow Alphanumeric one_byte_sets.0 (λ s o b w. rw (is_narrow_lem s o w)))
        (all_append (Reads c) (fullwidth g.annex_e c) _ (fullwidths g.annex_e refl)
        (all_append (Reads c) (of_place 0 wide (kanji_reverse g.cells c)) _ (places 0 wide (kanji_at g.cells) two_byte_sets.0 cell_sets.0 _ (kanji_found g.cells c))
        (all_append (Reads c) (of_place 14 wide (additional_reverse c)) _ (places 14 wide symbol two_byte_sets.1 cell_sets.1 _ (additional_found c))
        (all_append (Reads c) (of_code 11 narrow (one_byte_reverse JisX0201Katakana c)) _ (one_byte 11 narrow JisX0201Katakana one_byte_sets.3 (λ s o b w. refl))
        (all_append (Reads c) (when (eqb c 0x20) (plain 0x20 narrow)) _ (where_it_holds (plain 0x20 narrow) (eqb c 0x20) (λ e. rw (eqb-true c 0x20 e) narrow_space))
        (by_test (All (Reads c)) g.annex_e (λ e. tt) (λ e. where_it_holds (plain 0x20 wide) (eqb c 0x3000) (λ d. rw (eqb-true c 0x3000 d) (wide_space e)))))))))))

  -- the seven marks, each by its cell, computed
  abbrev MarkCell : Assignment → Type 0
  MarkCell a = Grid a.row a.cell × ((s : State) (at : ℕ) (o : Output) → char2 g 0 (0x20 + a.row) (0x20 + a.cell) at (read z s o) ≡ read z s (puts a.character at o))

  mark_cells : All MarkCell non_spacing
  unfolding char2 puts
  mark_cells = (
    (omega arith, λ s at o. refl),
    (
      (omega arith, λ s at o. refl),
      (
        (omega arith, λ s at o. refl),
        (
          (omega arith, λ s at o. refl),
          ((omega arith, λ s at o. refl), ((omega arith, λ s at o. refl), ((omega arith, λ s at o. refl), tt))),
        ),
      ),
    ),
  )

  marks_read : (c : ℕ) (ms : List Assignment) → All MarkCell ms → All (Reads c) (of_place 0 either (cell_with ms c))
  unfolding of_place cell_with
  marks_read c [] h = tt
  marks_read c (a ∷ ms) h =
      by_test (λ (p : Option (ℕ × ℕ)). All (Reads c) (of_place 0 either p)) (eqb a.character c)
      (λ e. rw (← (eqb-true a.character c e)) (two_byte a.character 0 either a.row a.cell h.0.0 two_byte_sets.0 h.0.1, tt))
      (λ e. marks_read c ms h.1)

  pub candidates_read : (c : ℕ) → All (Reads c) (candidates g.cells g.annex_e c)
  unfolding candidates
  candidates_read c = go (eqb c 10) refl (has_character non_spacing c) refl
    where
      go : (n : Bool) → eqb c 10 ≡ n → (m : Bool) → has_character non_spacing c ≡ m → All (Reads c) (candidates g.cells g.annex_e c)
      go true e m f = rw (e, candidates) (rw (eqb-true c 10 e) newline_read, tt)
      go false e true f = rw (e, f, candidates) (marks_read c non_spacing mark_cells)
      go false e false f = rw (e, f, candidates) (letters_read c (record { mark = f; newline = e }))
