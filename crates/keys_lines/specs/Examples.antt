-- Worked examples, computed, over a zero cell table.
use Rattle.std.specs.Prelude.{ℕ, ◌≡◌, refl, List, [], ◌∷◌, replicate}
use Rattle.std.proofs.Math.Option.{none, some}
use Rattle.questions.specs.Questions.{all, cells_hold}
use Rattle.key_text.specs.KeyText.{halfwidth_of}
use Rattle.keys_lines.specs.Line.{printed}

unfoldable zeros : List ℕ
zeros = replicate 8836 0

record Worked : Type 0 where
  -- 7 TAB 890E41, and a carriage return: 7 TAB A
  key : printed zeros (0x37 ∷ 0x09 ∷ 0x38 ∷ 0x39 ∷ 0x30 ∷ 0x65 ∷ 0x34 ∷ 0x31 ∷ 0x0D ∷ []) ≡ some (0x37 ∷ 0x09 ∷ 0x41 ∷ 0x0A ∷ [])
  -- 8 TAB 0E41, the same letter full-width: 8 TAB A
  full_width : printed zeros (0x38 ∷ 0x09 ∷ 0x30 ∷ 0x45 ∷ 0x34 ∷ 0x31 ∷ []) ≡ some (0x38 ∷ 0x09 ∷ 0x41 ∷ 0x0A ∷ [])
  -- 007 TAB: an empty key
  empty : printed zeros (0x30 ∷ 0x30 ∷ 0x37 ∷ 0x09 ∷ []) ≡ some (0x30 ∷ 0x30 ∷ 0x37 ∷ 0x09 ∷ 0x0A ∷ [])
  -- 7 TAB 24a2: refused 10 0
  issue : printed zeros (0x37 ∷ 0x09 ∷ 0x32 ∷ 0x34 ∷ 0x61 ∷ 0x32 ∷ []) ≡
      some (0x37 ∷ 0x09 ∷ 0x72 ∷ 0x65 ∷ 0x66 ∷ 0x75 ∷ 0x73 ∷ 0x65 ∷ 0x64 ∷ 0x20 ∷ 0x31 ∷ 0x30 ∷ 0x20 ∷ 0x30 ∷ 0x0A ∷ [])
  -- 7 TAB 7c3a, which is U+E290: refused 11 0
  private_use : printed zeros (0x37 ∷ 0x09 ∷ 0x37 ∷ 0x63 ∷ 0x33 ∷ 0x61 ∷ []) ≡
      some (0x37 ∷ 0x09 ∷ 0x72 ∷ 0x65 ∷ 0x66 ∷ 0x75 ∷ 0x73 ∷ 0x65 ∷ 0x64 ∷ 0x20 ∷ 0x31 ∷ 0x31 ∷ 0x20 ∷ 0x30 ∷ 0x0A ∷ [])
  -- a table that question 1 does not admit: refused 1 0
  table : printed [] (0x37 ∷ 0x09 ∷ []) ≡ some (0x37 ∷ 0x09 ∷ 0x72 ∷ 0x65 ∷ 0x66 ∷ 0x75 ∷ 0x73 ∷ 0x65 ∷ 0x64 ∷ 0x20 ∷ 0x31 ∷ 0x20 ∷ 0x30 ∷ 0x0A ∷ [])
  -- an empty line; no TAB; no number; an odd digit; a byte that is no digit; 4294967296; eleven digits
  malformed_0 : printed zeros [] ≡ none
  malformed_1 : printed zeros (0x37 ∷ []) ≡ none
  malformed_2 : printed zeros (0x09 ∷ 0x34 ∷ 0x31 ∷ []) ≡ none
  malformed_3 : printed zeros (0x37 ∷ 0x09 ∷ 0x34 ∷ []) ≡ none
  malformed_4 : printed zeros (0x37 ∷ 0x09 ∷ 0x34 ∷ 0x67 ∷ []) ≡ none
  malformed_5 : printed zeros (0x34 ∷ 0x32 ∷ 0x39 ∷ 0x34 ∷ 0x39 ∷ 0x36 ∷ 0x37 ∷ 0x32 ∷ 0x39 ∷ 0x36 ∷ 0x09 ∷ []) ≡ none
  malformed_6 : printed zeros (0x30 ∷ 0x30 ∷ 0x30 ∷ 0x30 ∷ 0x30 ∷ 0x30 ∷ 0x30 ∷ 0x30 ∷ 0x30 ∷ 0x30 ∷ 0x37 ∷ 0x09 ∷ []) ≡ none

worked : Worked
unfolding printed halfwidth_of zeros cells_hold all
worked =
    record {
      key = refl;
      full_width = refl;
      empty = refl;
      issue = refl;
      private_use = refl;
      table = refl;
      malformed_0 = refl;
      malformed_1 = refl;
      malformed_2 = refl;
      malformed_3 = refl;
      malformed_4 = refl;
      malformed_5 =
          refl;
      malformed_6 = refl;
    }
