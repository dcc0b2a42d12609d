-- What the program `keys` prints for a line that it reads. A line is the list of its bytes without the newline.
use Rattle.std.specs.Prelude.{ℕ, ◌*◌, min, true, false, List, length, take}
use Rattle.std.proofs.Math.Option.{Option, none, some}
use Rattle.key.specs.Key.{Lent, outcome}
use Rattle.keys_form.specs.Line.{bytes_of, trimmed, number_of, hex_of, is_line, line_of}

-- the room that a title of n bytes has for its text before removal: 64 bytes a byte, 196,608 at most
unfoldable pub room_for : ℕ → ℕ
room_for n = min (n * 64) 196608

-- the key call: Si, CharacterSize
abbrev pub call : List ℕ → List ℕ → Lent
call cells bytes = record { cells = cells; initial = 0; width = 0; input = bytes; room = room_for (length bytes) }

-- NUMBER, TAB, and the key of HEX or a refusal
unfoldable pub line_text : List ℕ → List ℕ → List ℕ
unfolding bytes_of room_for outcome line_of
line_text cells l =
    let o = outcome (call cells (bytes_of (hex_of l))) in
    line_of (number_of l) o.refused (take o.len o.buffer)

-- the line printed for a line; none where that is malformed
unfoldable pub printed : List ℕ → List ℕ → Option (List ℕ)
unfolding trimmed is_line line_text
printed cells l = elim (is_line (trimmed l)) [ true ↦ some (line_text cells (trimmed l)) | false ↦ none ]
