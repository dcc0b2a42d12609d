-- Worked examples, computed: Si, CharacterSize and a zero cell table unless said.
use Rattle.std.specs.Prelude.{ℕ, ◌≡◌, refl, List, [], ◌∷◌, replicate}
use Rattle.questions.specs.Questions.{all, cells_hold}
use Rattle.reading.specs.WithoutBuffers.{lent}
use Rattle.measure.specs.Measure.{Outcome, outcome}

unfoldable zeros : List ℕ
zeros = replicate 8836 0

abbrev call : List ℕ → ℕ → List ℕ → Outcome
call cells initial input = outcome (lent cells initial 0 input)

-- so many bytes of text, issues, and so much charge
abbrev counts : ℕ → ℕ → ℕ → Outcome
counts text issues charged = record { refused = 0; text = text; issues = issues; charged = charged }

abbrev refused_with : ℕ → Outcome
refused_with number = record { refused = number; text = 0; issues = 0; charged = 0 }

record Worked : Type 0 where
  nothing : call zeros 0 [] ≡ counts 0 0 0
  -- ステレオ: four characters, twelve bytes
  stereo : call zeros 0 (0x1B ∷ 0x7C ∷ 0xB9 ∷ 0xC6 ∷ 0xEC ∷ 0xAA ∷ []) ≡ counts 12 0 0
  truncated : call zeros 0 (0x24 ∷ 0xA2 ∷ []) ≡ counts 3 1 0
  -- marks that wait at the end, two bytes each: one issue; before a base none
  waiting : call zeros 0 (0x21 ∷ 0x2D ∷ 0x21 ∷ 0x2E ∷ []) ≡ counts 4 1 0
  based : call zeros 0 (0x21 ∷ 0x2D ∷ 0xA2 ∷ []) ≡ counts 5 0 0
  -- a body of two kana that runs, that is only defined, that runs twice
  run : call zeros 1 (0x95 ∷ 0x41 ∷ 0x21 ∷ 0xA2 ∷ 0xA4 ∷ 0x95 ∷ 0x4F ∷ []) ≡ counts 6 0 2
  defined : call zeros 1 (0x95 ∷ 0x40 ∷ 0x21 ∷ 0xA2 ∷ 0xA4 ∷ 0x95 ∷ 0x4F ∷ []) ≡ counts 0 0 0
  again : call zeros 1 (0x95 ∷ 0x41 ∷ 0x21 ∷ 0xA2 ∷ 0xA4 ∷ 0x95 ∷ 0x4F ∷ 0x1D ∷ 0x21 ∷ []) ≡ counts 12 0 4
  -- questions 1 and 2
  table : call [] 2 [] ≡ refused_with 1
  option : call zeros 2 [] ≡ refused_with 2

worked : Worked
unfolding outcome zeros cells_hold all
worked = record { nothing = refl; stereo = refl; truncated = refl; waiting = refl; based = refl; run = refl; defined = refl; again = refl; table = refl; option = refl }
