-- Worked examples, computed: Si, CharacterSize and a zero cell table unless said.
use Rattle.std.specs.Prelude.{ℕ, ◌≡◌, refl, List, [], ◌∷◌, set, replicate}
use Rattle.questions.specs.Questions.{all, cells_hold}
use Rattle.key_text.specs.KeyText.{halfwidth_of}
use Rattle.key.specs.Key.{Outcome, outcome}

unfoldable zeros : List ℕ
zeros = replicate 8836 0

abbrev call : List ℕ → ℕ → List ℕ → ℕ → Outcome
call cells initial input room = outcome (record { cells = cells; initial = initial; width = 0; input = input; room = room })

abbrev keyed : ℕ → ℕ → List ℕ → Outcome
keyed len charged buffer = record { refused = 0; len = len; charged = charged; buffer = buffer }

abbrev refused : ℕ → List ℕ → Outcome
refused number buffer = record { refused = number; len = 0; charged = 0; buffer = buffer }

record Worked : Type 0 where
  -- narrow A, SP, B: the text has three bytes and the key two
  narrow : call zeros 0 (0x89 ∷ 0x0E ∷ 0x41 ∷ 0x20 ∷ 0x42 ∷ []) 4 ≡ keyed 2 0 (0x41 ∷ 0x42 ∷ 0 ∷ 0 ∷ [])
  -- Ａ: three bytes, the key one; two bytes of room are too few for the text
  letter : call zeros 0 (0x0E ∷ 0x41 ∷ []) 3 ≡ keyed 1 0 (0x41 ∷ 0 ∷ 0 ∷ [])
  letter_full : call zeros 0 (0x0E ∷ 0x41 ∷ []) 2 ≡ refused 8 (0 ∷ 0 ∷ [])
  -- ￥ becomes ¥, ～ becomes ~
  signs : call zeros 0 (0x0E ∷ 0x5C ∷ 0x7E ∷ []) 6 ≡ keyed 3 0 (0xC2 ∷ 0xA5 ∷ 0x7E ∷ 0 ∷ 0 ∷ 0 ∷ [])
  -- Ａ from a cell of the table; ＼ stays
  cells : call (set (set zeros 0 0xFF21) 1 0xFF3C) 0 (0x21 ∷ 0x21 ∷ 0x21 ∷ 0x22 ∷ []) 6 ≡ keyed 4 0 (0x41 ∷ 0xEF ∷ 0xBC ∷ 0xBC ∷ 0 ∷ 0 ∷ [])
  -- wide SP, あ, newline, あ: ten bytes, the key six
  wide : call zeros 0 (0x20 ∷ 0xA2 ∷ 0x0D ∷ 0xA2 ∷ []) 10 ≡ keyed 6 0 (0xE3 ∷ 0x81 ∷ 0x82 ∷ 0xE3 ∷ 0x81 ∷ 0x82 ∷ 0 ∷ 0 ∷ 0 ∷ 0 ∷ [])
  -- nine bytes of room: "the text before removal"
  full : call zeros 0 (0x20 ∷ 0xA2 ∷ 0x0D ∷ 0xA2 ∷ []) 9 ≡ refused 8 (replicate 9 0)
  -- あ with an issue; in too little room 8 comes first
  issue : call zeros 0 (0x24 ∷ 0xA2 ∷ []) 3 ≡ refused 10 (replicate 3 0)
  both : call zeros 0 (0x24 ∷ 0xA2 ∷ []) 2 ≡ refused 8 (replicate 2 0)
  -- 92-26, U+E290; with an issue behind it 10; in too little room for both 8
  private_use : call zeros 0 (0x7C ∷ 0x3A ∷ []) 3 ≡ refused 11 (replicate 3 0)
  private_issue : call zeros 0 (0x7C ∷ 0x3A ∷ 0x24 ∷ 0xA2 ∷ []) 6 ≡ refused 10 (replicate 6 0)
  private_full : call zeros 0 (0x7C ∷ 0x3A ∷ 0x24 ∷ 0xA2 ∷ []) 5 ≡ refused 8 (replicate 5 0)
  -- a cell that holds U+000A is removed like a newline
  cell : call (set zeros 0 0x0A) 0 (0x21 ∷ 0x21 ∷ 0xA2 ∷ []) 4 ≡ keyed 3 0 (0xE3 ∷ 0x81 ∷ 0x82 ∷ 0 ∷ [])
  -- Caption: a built-in macro, and its charge
  charge : call zeros 1 (0x1D ∷ 0x61 ∷ 0x0E ∷ 0x22 ∷ []) 3 ≡ keyed 3 16 (0xE3 ∷ 0x82 ∷ 0xA2 ∷ [])
  -- spaces only, and nothing
  spaces : call zeros 0 (0x20 ∷ 0x0D ∷ []) 5 ≡ keyed 0 0 (replicate 5 0)
  nothing : call zeros 0 [] 0 ≡ keyed 0 0 []
  -- questions 1 and 2
  table : call [] 2 [] 1 ≡ refused 1 (0 ∷ [])
  option : call zeros 2 (0x24 ∷ 0xA2 ∷ []) 1 ≡ refused 2 (0 ∷ [])

worked : Worked
unfolding outcome halfwidth_of zeros cells_hold all
worked =
    record {
      narrow = refl;
      letter = refl;
      letter_full = refl;
      signs = refl;
      cells = refl;
      wide = refl;
      full = refl;
      issue = refl;
      both = refl;
      private_use = refl;
      private_issue = refl;
      private_full = refl;
      cell = refl;
      charge = refl;
      spaces = refl;
      nothing = refl;
      table = refl;
      option = refl;
    }
