-- The lines that the program `listing` prints, from numbers and bytes: 01, below "The table of twelve". A text is the list of its ASCII codes.
use Rattle.std.specs.Prelude.{ℕ, zero, suc, List, [], ◌∷◌, ◌++◌, take, drop}
use Rattle.issues.specs.Issue.{numbers}
use Rattle.ascii.specs.Ascii.{decimal, hexadecimal, space, newline}

-- `text `, ` issues ` and ` charged `
abbrev pub text_word : List ℕ
text_word = 0x74 ∷ 0x65 ∷ 0x78 ∷ 0x74 ∷ 0x20 ∷ []

abbrev pub issues_word : List ℕ
issues_word = 0x20 ∷ 0x69 ∷ 0x73 ∷ 0x73 ∷ 0x75 ∷ 0x65 ∷ 0x73 ∷ 0x20 ∷ []

abbrev pub charged_word : List ℕ
charged_word = 0x20 ∷ 0x63 ∷ 0x68 ∷ 0x61 ∷ 0x72 ∷ 0x67 ∷ 0x65 ∷ 0x64 ∷ 0x20 ∷ []

-- "Its first line names text bytes, issues and charge"
unfoldable pub first_line : ℕ → ℕ → ℕ → List ℕ
unfolding decimal
first_line text issues charged = text_word ++ decimal text ++ issues_word ++ decimal issues ++ charged_word ++ decimal charged ++ newline

-- "then one line per issue, its .. numbers", of which request 4 of docs/REQUESTS.md makes five
unfoldable pub others : List ℕ → List ℕ
unfolding decimal
others [] = newline
others (x ∷ xs) = space ++ decimal x ++ others xs

unfoldable pub issue_line : List ℕ → List ℕ
unfolding decimal others
issue_line [] = newline
issue_line (x ∷ xs) = decimal x ++ others xs

-- the lines of so many issues
unfoldable pub issue_lines : ℕ → List ℕ → List ℕ
unfolding issue_line
issue_lines zero issues = []
issue_lines (suc k) issues = issue_line (take numbers issues) ++ issue_lines k (drop numbers issues)

-- "the second is the text in hexadecimal"
unfoldable pub decoding_lines : ℕ → ℕ → ℕ → List ℕ → List ℕ → List ℕ
unfolding first_line hexadecimal issue_lines
decoding_lines n k charged text issues = first_line n k charged ++ hexadecimal text ++ newline ++ issue_lines k issues
