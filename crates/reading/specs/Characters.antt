-- Graphic characters: decode.rs, `graphic`, `char1` and `char2`.
use Rattle.std.specs.Prelude.{ℕ, zero, suc, ◌+◌, ◌-◌, ◌*◌, ◌/◌, ◌%◌, Bool, cond, ◌&&◌, ◌||◌, List, [], ◌∷◌, eqb, leb, get_or}
use Rattle.sets.specs.Sets.{bytes_per_char}
use Rattle.addsym.specs.Symbols.{symbol}
use Rattle.tables_onebyte.specs.OneByte.{one_byte_at}
use Rattle.tables.specs.Kanji.{non_spacing, has_character, kanji_at}
use Rattle.tables_onebyte.specs.declared.OneByteTable.TheVariants.{Alphanumeric, Fullwidth, Hiragana, Katakana, JisX0201Katakana}
use Rattle.issues.specs.declared.IssueKind.{IssueKind}
use Rattle.issues.specs.declared.IssueKind.TheVariants.{UndefinedCode, UnsupportedCode, Drcs, Mosaic, LoneSingleShift}
use Rattle.decode_output.specs.Output.{emit, mark, set_repeat}
use Rattle.reading.specs.State.{Given, State, Step, took, issue, placeholder, truncated, writes, is_narrow}
use Rattle.reading.specs.Macros.{Run, run_macro}

-- "21 to 7E reads through GL, A1 to FE through GR"
unfoldable pub is_gl : ℕ → Bool
is_gl x = leb 0x21 x && leb x 0x7E

unfoldable pub is_gr : ℕ → Bool
is_gr x = leb 0xA1 x && leb x 0xFE

unfoldable pub is_graphic : ℕ → Bool
unfolding is_gl is_gr
is_graphic x = is_gl x || is_gr x

-- a character, 0 for none, whose place U+FFFD takes with an issue
unfoldable pub emit_or : IssueKind → ℕ → ℕ → State → State
unfolding placeholder writes emit
emit_or kind zero at s = placeholder at kind s
emit_or kind (suc c) at s = writes (emit (suc c)) s

-- "A mark is any of the seven characters, from whichever cell it was read"
unfoldable pub cell_or : IssueKind → ℕ → ℕ → State → State
unfolding emit_or has_character writes mark
cell_or kind c at s = cond (has_character non_spacing c) (writes (mark c at) s) (emit_or kind c at s)

-- a character of a two-byte set, codes a and b in GL form
unfoldable pub char2 : Given → ℕ → ℕ → ℕ → ℕ → State → State
unfolding cell_or placeholder kanji_at symbol
char2 g number a b at s =
    let code = a * 256 + b in
    let row = a - 0x20 in
    let cell = b - 0x20 in
    cond (eqb number 0) (cell_or (UndefinedCode number code) (kanji_at g.cells row cell) at s)
    (cond (eqb number 14) (cell_or (UndefinedCode number code) (symbol row cell) at s)
    (cond (eqb number 12 && leb row 84) (cell_or (UnsupportedCode number code) (kanji_at g.cells row cell) at s)
    (cond (eqb number 16) (placeholder at (Drcs 0 code) s)
    (placeholder at (UnsupportedCode number code) s))))

-- the character of a one-byte set other than mosaic, macro and DRCS, 0 for none; an alphanumeric is full-width unless narrow
unfoldable pub letter : Bool → ℕ → ℕ → ℕ
unfolding one_byte_at
letter narrow number c =
    cond (eqb number 1 || eqb number 8) (cond narrow (one_byte_at Alphanumeric c) (one_byte_at Fullwidth c))
    (cond (eqb number 2 || eqb number 9) (one_byte_at Hiragana c)
    (cond (eqb number 3 || eqb number 10) (one_byte_at Katakana c)
    (cond (eqb number 11) (one_byte_at JisX0201Katakana c) 0)))

-- "A mosaic clears it", the waiting repeat
unfoldable pub mosaic : ℕ → ℕ → ℕ → State → State
unfolding issue writes set_repeat
mosaic number c at s = writes (set_repeat 0) (issue at (Mosaic number c) s)

-- a character of a one-byte set, code c in GL form
unfoldable pub char1 : Given → ℕ → Run → ℕ → ℕ → ℕ → State → State
unfolding run_macro mosaic placeholder emit_or letter is_narrow
char1 g left R number c at s =
    cond (eqb number 15) (run_macro g left R c at s)
    (cond (leb 4 number && leb number 7) (mosaic number c at s)
    (cond (leb 17 number) (placeholder at (Drcs (number - 16) c) s)
    (emit_or (UndefinedCode number c) (letter (is_narrow g s) number c) at s)))

-- "A two-byte character needs its second byte in the same half; otherwise Truncated, and one byte is used"
unfoldable pub graphic2 : Given → ℕ → ℕ → List ℕ → ℕ → State → Step
unfolding truncated is_graphic char2
graphic2 g number x [] at s = truncated 1 at s
graphic2 g number x (y ∷ r) at s =
    cond (is_graphic y && eqb (x / 128) (y / 128)) (took 2 (char2 g number (x % 128) (y % 128) at s)) (truncated 1 at s)

unfoldable pub graphic_of : Given → ℕ → Run → ℕ → ℕ → List ℕ → ℕ → State → Step
unfolding bytes_per_char graphic2 char1
graphic_of g left R number x rest at s =
    cond (eqb (bytes_per_char number) 2) (graphic2 g number x rest at s) (took 1 (char1 g left R number (x % 128) at s))

-- the character that begins with the byte x, of the set in a code element
unfoldable pub graphic : Given → ℕ → Run → ℕ → ℕ → List ℕ → ℕ → State → Step
unfolding graphic_of
graphic g left R element x rest at s = graphic_of g left R (get_or s.sets element 0) x rest at s

abbrev after : Step → Step
after w = record { used = suc w.used; to = w.to }

-- "A single shift reads one character from G2 or G3 in either half; before a byte outside both halves it is LoneSingleShift, at the end Truncated,
-- and uses one byte"
unfoldable pub single_shift : Given → ℕ → Run → ℕ → List ℕ → ℕ → State → Step
unfolding truncated is_graphic graphic issue
single_shift g left R element [] at s = truncated 1 at s
single_shift g left R element (y ∷ r) at s = cond (is_graphic y) (after (graphic g left R element y r at s)) (took 1 (issue at LoneSingleShift s))
