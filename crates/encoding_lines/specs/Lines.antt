-- What the program `encoding` prints. A text is the list of its ASCII codes.
use Rattle.std.specs.Prelude.{ℕ, zero, suc, Bool, List, take}
use Rattle.coding.specs.Call.{Lent, Outcome, outcome}
use Rattle.ascii.specs.Ascii.{refused_line}
use Rattle.jis_tab.specs.CellTable.{cell_table}
use Rattle.encoding_form.specs.Lines.{coding_lines}

-- what a call gave, in lines
unfoldable pub answer_lines : ℕ → Outcome → List ℕ
unfolding coding_lines refused_line
answer_lines zero o = coding_lines o.length o.gap (take o.length o.buffer)
answer_lines (suc q) o = refused_line (suc q) o.place

-- Si, CharacterSize; a store of 262,144 states, of four numbers each, and nine bytes of coding for each of 7,281 bytes of text
abbrev pub call : List ℕ → List ℕ → Lent
call cells text = record { cells = cells; initial = 0; width = 0; text = text; store_room = 1048576; coding_room = 65529 }

unfoldable pub coded_lines : List ℕ → List ℕ → List ℕ
unfolding outcome answer_lines
coded_lines cells text = answer_lines (outcome (call cells text)).refused (outcome (call cells text))

-- whether there is a `jis.tab`, its bytes, and the text
unfoldable pub encoding : Bool → List ℕ → List ℕ → List ℕ
unfolding coded_lines cell_table
encoding present table text = coded_lines (cell_table present table) text
