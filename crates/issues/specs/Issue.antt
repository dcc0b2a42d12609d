-- "An issue becomes five numbers, the last being the byte position in the text" (request 4 of docs/REQUESTS.md); the
-- first four are those of 01, "Reading": offset, kind (1 to 13 in the order of `IssueKind`), and two fields.
use Rattle.std.specs.Prelude.{ℕ, List, [], ◌∷◌, ◌++◌}
use Rattle.issues.specs.declared.Numbers.{Numbers}
use Rattle.issues.specs.declared.IssueKind.{IssueKind}
use Rattle.issues.specs.declared.IssueKind.TheVariants.{
  UnknownEscape,
  UndefinedControl,
  MalformedControl,
  Truncated,
  UndefinedCode,
  UnsupportedCode,
  Drcs,
  Mosaic,
  UndefinedMacro,
  MacroLimit,
  LoneSingleShift,
  DanglingNonSpacing,
  RepeatToEndOfLine,
}

abbrev three : ℕ → ℕ → ℕ → Numbers
three kind first second = record { kind = kind; first = first; second = second }

-- 01's number of each kind, with its fields: an unknown escape's start and length; kinds 2 and 3 the code; kinds 5, 6 and 8 the set's number
-- and the code; Drcs its n and the code; UndefinedMacro the code; an unused field is 0
abbrev pub numbers_of : IssueKind → Numbers
numbers_of (UnknownEscape start len) = three 1 start len
numbers_of (UndefinedControl code) = three 2 code 0
numbers_of (MalformedControl code) = three 3 code 0
numbers_of Truncated = three 4 0 0
numbers_of (UndefinedCode set code) = three 5 set code
numbers_of (UnsupportedCode set code) = three 6 set code
numbers_of (Drcs n code) = three 7 n code
numbers_of (Mosaic set code) = three 8 set code
numbers_of (UndefinedMacro code) = three 9 code 0
numbers_of MacroLimit = three 10 0 0
numbers_of LoneSingleShift = three 11 0 0
numbers_of DanglingNonSpacing = three 12 0 0
numbers_of RepeatToEndOfLine = three 13 0 0

-- an issue: where it was met in the input, what it is, and how many bytes of text there were when it was reported
pub record Issue : Type 0 where
  pub offset : ℕ
  pub kind : IssueKind
  pub position : ℕ

-- how many numbers an issue is
abbrev pub numbers : ℕ
numbers = 5

-- an issue's numbers
unfoldable pub issue_numbers : Issue → List ℕ
issue_numbers i = i.offset ∷ (numbers_of i.kind).kind ∷ (numbers_of i.kind).first ∷ (numbers_of i.kind).second ∷ i.position ∷ []

-- a list of issues as the buffer holds it
unfoldable pub issues_numbers : List Issue → List ℕ
unfolding issue_numbers
issues_numbers [] = []
issues_numbers (i ∷ is) = issue_numbers i ++ issues_numbers is
