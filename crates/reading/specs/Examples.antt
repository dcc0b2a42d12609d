-- Worked examples: the eight decoding rows of 01's table of twelve, and corners that "Reading" and requests 4 and 6 of docs/REQUESTS.md name.
use Rattle.std.specs.Prelude.{ℕ, ◌*◌, ◌≡◌, refl, List, [], ◌∷◌, set, replicate}
use Rattle.questions.specs.Questions.{cells_hold, all}
use Rattle.issues.specs.Issue.{numbers}
use Rattle.reading.specs.Call.{Outcome, outcome}

-- the call with Si (0) or Caption (1), CharacterSize, a zero cell table, a buffer of 10 bytes for the text and one for two issues
abbrev pub read : ℕ → List ℕ → Outcome
read initial input = outcome (record { cells = replicate 8836 0; initial = initial; width = 0; input = input; text_room = 10; issue_room = 2 * numbers })

-- it is accepted: the lengths of the text and of the issues, the charge, no private-use character, and the buffers, which are zero past
abbrev pub gives : ℕ → ℕ → ℕ → List ℕ → List ℕ → Outcome
gives text issues charged text_buffer issue_buffer =
    record { refused = 0; text = text; issues = issues; charged = charged; private_use = 0; text_buffer = text_buffer; issue_buffer = issue_buffer }

-- the private-use characters of the text, where cell 16-1 of the table holds x
abbrev pub counts : ℕ → List ℕ → ℕ
counts x input =
    (outcome (record { cells = set (replicate 8836 0) 1410 x; initial = 0; width = 0; input = input; text_room = 10; issue_room = 2 * numbers })).private_use

-- The eight rows
pub record Rows : Type 0 where
  -- U+FF21 is EF BC A1
  pub fullwidth_a : read 0 (0x0E ∷ 0x41 ∷ []) ≡ gives 3 0 0 (0xEF ∷ 0xBC ∷ 0xA1 ∷ replicate 7 0) (replicate 10 0)
  pub narrow_a : read 0 (0x89 ∷ 0x0E ∷ 0x41 ∷ []) ≡ gives 1 0 0 (0x41 ∷ replicate 9 0) (replicate 10 0)
  -- あ is E3 81 82; Truncated is 4
  pub halves : read 0 (0x24 ∷ 0xA2 ∷ []) ≡ gives 3 1 0 (0xE3 ∷ 0x81 ∷ 0x82 ∷ replicate 7 0) (0 ∷ 4 ∷ replicate 8 0)
  pub repeated : read 0 (0x98 ∷ 0x43 ∷ 0xA2 ∷ []) ≡
      gives 9 0 0 (0xE3 ∷ 0x81 ∷ 0x82 ∷ 0xE3 ∷ 0x81 ∷ 0x82 ∷ 0xE3 ∷ 0x81 ∷ 0x82 ∷ 0 ∷ []) (replicate 10 0)
  -- RepeatToEndOfLine is 13
  pub to_end : read 0 (0x98 ∷ 0x40 ∷ 0xA2 ∷ []) ≡ gives 3 1 0 (0xE3 ∷ 0x81 ∷ 0x82 ∷ replicate 7 0) (0 ∷ 13 ∷ replicate 8 0)
  -- U+0301 is CC 81
  pub marked : read 0 (0x21 ∷ 0x2D ∷ 0xA2 ∷ []) ≡ gives 5 0 0 (0xE3 ∷ 0x81 ∷ 0x82 ∷ 0xCC ∷ 0x81 ∷ replicate 5 0) (replicate 10 0)
  -- ア is E3 82 A2
  pub built_in : read 1 (0x1D ∷ 0x61 ∷ 0x0E ∷ 0x22 ∷ []) ≡ gives 3 0 16 (0xE3 ∷ 0x82 ∷ 0xA2 ∷ replicate 7 0) (replicate 10 0)
  -- MacroLimit is 10
  pub limited : read 1 (0x95 ∷ 0x41 ∷ 0x21 ∷ 0x1D ∷ 0x21 ∷ 0x95 ∷ 0x4F ∷ []) ≡ gives 0 1 8 (replicate 10 0) (0 ∷ 10 ∷ replicate 8 0)

pub rows : Rows
unfolding outcome cells_hold all
rows = record { fullwidth_a = refl; narrow_a = refl; halves = refl; repeated = refl; to_end = refl; marked = refl; built_in = refl; limited = refl }

-- Corners
record Corners : Type 0 where
  -- "Newline (0D) changes neither size nor a waiting repeat": MSZ, RPC 2, newline, LS1, A
  newline_keeps : read 0 (0x89 ∷ 0x98 ∷ 0x42 ∷ 0x0D ∷ 0x0E ∷ 0x41 ∷ []) ≡ gives 3 0 0 (0x0A ∷ 0x41 ∷ 0x41 ∷ replicate 7 0) (replicate 10 0)
  -- "A mosaic clears it": mosaic set A (4) to G0, RPC 3, its character 21 (Mosaic is 8), あ once
  mosaic_clears : read 0 (0x1B ∷ 0x28 ∷ 0x32 ∷ 0x98 ∷ 0x43 ∷ 0x21 ∷ 0xA2 ∷ []) ≡
      gives 3 1 0 (0xE3 ∷ 0x81 ∷ 0x82 ∷ replicate 7 0) (5 ∷ 8 ∷ 4 ∷ 0x21 ∷ replicate 6 0)
  -- "A single shift reads one character from G2 or G3 in either half": SS2 22, SS2 A2
  either_half : read 0 (0x19 ∷ 0x22 ∷ 0x19 ∷ 0xA2 ∷ []) ≡ gives 6 0 0 (0xE3 ∷ 0x81 ∷ 0x82 ∷ 0xE3 ∷ 0x81 ∷ 0x82 ∷ replicate 4 0) (replicate 10 0)
  -- ".. one character": LS1, SS2 22, and 41 through GL again
  one_shifted : read 0 (0x0E ∷ 0x19 ∷ 0x22 ∷ 0x41 ∷ []) ≡ gives 6 0 0 (0xE3 ∷ 0x81 ∷ 0x82 ∷ 0xEF ∷ 0xBC ∷ 0xA1 ∷ replicate 4 0) (replicate 10 0)
  -- NSZ undoes MSZ, a locking shift between them does not: MSZ, LS1, A, NSZ, Ａ
  size_undone : read 0 (0x89 ∷ 0x0E ∷ 0x41 ∷ 0x8A ∷ 0x41 ∷ []) ≡ gives 4 0 0 (0x41 ∷ 0xEF ∷ 0xBC ∷ 0xA1 ∷ replicate 6 0) (replicate 10 0)
  -- "Issues are in order of report, not of offset": a mark waits at 0, RPC 0 is reported at 2, and at the end the mark (DanglingNonSpacing is 12)
  in_order : read 0 (0x21 ∷ 0x2D ∷ 0x98 ∷ 0x40 ∷ []) ≡ gives 2 2 0 (0xCC ∷ 0x81 ∷ replicate 8 0) (2 ∷ 13 ∷ 0 ∷ 0 ∷ 0 ∷ 0 ∷ 12 ∷ 0 ∷ 0 ∷ 0 ∷ [])
  -- "the byte position in the text at the moment of report, before the placeholder": あ, then 30 21, whose cell is empty; U+FFFD is EF BF BD
  before_placeholder : read 0 (0xA2 ∷ 0x30 ∷ 0x21 ∷ []) ≡
      gives 6 1 0 (0xE3 ∷ 0x81 ∷ 0x82 ∷ 0xEF ∷ 0xBF ∷ 0xBD ∷ replicate 4 0) (1 ∷ 5 ∷ 0 ∷ 0x3021 ∷ 3 ∷ replicate 5 0)
  -- "or marks it brings": あ, a mark, newline
  before_marks : read 0 (0xA2 ∷ 0x21 ∷ 0x2D ∷ 0x0D ∷ []) ≡
      gives 6 1 0 (0xE3 ∷ 0x81 ∷ 0x82 ∷ 0xCC ∷ 0x81 ∷ 0x0A ∷ replicate 4 0) (1 ∷ 12 ∷ 0 ∷ 0 ∷ 3 ∷ replicate 5 0)
  -- "waiting marks not counted": あ, a mark, RPC 0, い, which is E3 81 84
  while_waiting : read 0 (0xA2 ∷ 0x21 ∷ 0x2D ∷ 0x98 ∷ 0x40 ∷ 0xA4 ∷ []) ≡
      gives 8 1 0 (0xE3 ∷ 0x81 ∷ 0x82 ∷ 0xE3 ∷ 0x81 ∷ 0x84 ∷ 0xCC ∷ 0x81 ∷ 0 ∷ 0 ∷ []) (3 ∷ 13 ∷ 0 ∷ 0 ∷ 3 ∷ replicate 5 0)

corners : Corners
unfolding outcome cells_hold all
corners =
    record {
      newline_keeps = refl;
      mosaic_clears = refl;
      either_half = refl;
      one_shifted = refl;
      size_undone = refl;
      in_order = refl;
      before_placeholder = refl;
      before_marks = refl;
      while_waiting = refl;
    }

-- Private-use characters
record PrivateUse : Type 0 where
  -- U+E000 and U+F8FF themselves, and what stands beside the last
  first : counts 0xE000 (0x30 ∷ 0x21 ∷ []) ≡ 1
  last : counts 0xF8FF (0x30 ∷ 0x21 ∷ []) ≡ 1
  behind : counts 0xF900 (0x30 ∷ 0x21 ∷ []) ≡ 0
  -- "each repeat counted": RPC 3
  repeated : counts 0xE000 (0x98 ∷ 0x43 ∷ 0x30 ∷ 0x21 ∷ []) ≡ 3
  -- from the additional symbols: 92-26, U+E290
  symbol : counts 0 (0x7C ∷ 0x3A ∷ []) ≡ 1
  -- an empty cell's U+FFFD is none
  placeholder : counts 0 (0x30 ∷ 0x21 ∷ []) ≡ 0
  -- a text that does not fit has no counts: four times
  refused : counts 0xE000 (0x98 ∷ 0x44 ∷ 0x30 ∷ 0x21 ∷ []) ≡ 0

private_use : PrivateUse
unfolding outcome cells_hold all
private_use = record { first = refl; last = refl; behind = refl; repeated = refl; symbol = refl; placeholder = refl; refused = refl }
