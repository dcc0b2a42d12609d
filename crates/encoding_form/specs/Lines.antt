-- The lines that the program `encoding` prints, from numbers and bytes. A text is the list of its ASCII codes.
use Rattle.std.specs.Prelude.{ℕ, List, [], ◌∷◌, ◌++◌}
use Rattle.ascii.specs.Ascii.{decimal, hexadecimal, newline}

-- `coding ` and ` gap `
abbrev pub coding_word : List ℕ
coding_word = 0x63 ∷ 0x6F ∷ 0x64 ∷ 0x69 ∷ 0x6E ∷ 0x67 ∷ 0x20 ∷ []

abbrev pub gap_word : List ℕ
gap_word = 0x20 ∷ 0x67 ∷ 0x61 ∷ 0x70 ∷ 0x20 ∷ []

-- the coding's length and its gap
unfoldable pub first_line : ℕ → ℕ → List ℕ
unfolding decimal
first_line n gap = coding_word ++ decimal n ++ gap_word ++ decimal gap ++ newline

-- the second line is the coding in hexadecimal
unfoldable pub coding_lines : ℕ → ℕ → List ℕ → List ℕ
unfolding first_line hexadecimal
coding_lines n gap coding = first_line n gap ++ hexadecimal coding ++ newline
