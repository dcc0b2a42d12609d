-- What the program `listing` prints: 01, below "The table of twelve". A text is the list of its ASCII codes.
use Rattle.std.specs.Prelude.{ℕ, zero, suc, ◌*◌, Bool, List, length, take}
use Rattle.questions.specs.Questions.{first_refusal}
use Rattle.issues.specs.Issue.{numbers}
use Rattle.reading.specs.Call.{Lent, Outcome, outcome}
use Rattle.ascii.specs.Ascii.{refused_line}
use Rattle.jis_tab.specs.CellTable.{cell_table}
use Rattle.listing_form.specs.Lines.{decoding_lines}

-- what a call gave, in lines; a refusal's place is 0, since decoding asks none of 4, 5 and 6
unfoldable pub answer_lines : ℕ → Outcome → List ℕ
unfolding decoding_lines refused_line
answer_lines zero o = decoding_lines o.text o.issues o.charged (take o.text o.text_buffer) o.issue_buffer
answer_lines (suc q) o = refused_line (suc q) 0

-- "with Si, CharacterSize"; "It has 65,536 text bytes and 256 issues"
abbrev pub call : List ℕ → List ℕ → Lent
call cells input = record { cells = cells; initial = 0; width = 0; input = input; text_room = 65536; issue_room = 256 * numbers }

-- "standard input (at most 4,096 bytes, else `refused 3 0`)", after question 1
unfoldable pub decoded_lines : List ℕ → List ℕ → List ℕ
unfolding first_refusal outcome answer_lines refused_line
decoded_lines cells input = first (first_refusal cells 0 0 4096 (length input))
  where
    first : ℕ → List ℕ
    first zero = answer_lines (outcome (call cells input)).refused (outcome (call cells input))
    first (suc q) = refused_line (suc q) 0

-- whether there is a `jis.tab`, its bytes, and the input
unfoldable pub listing : Bool → List ℕ → List ℕ → List ℕ
unfolding decoded_lines cell_table
listing present table input = decoded_lines (cell_table present table) input
