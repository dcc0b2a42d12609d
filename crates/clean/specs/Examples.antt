-- Worked examples, computed: Si, CharacterSize and a zero cell table unless said.
use Rattle.std.specs.Prelude.{ℕ, ◌≡◌, refl, List, [], ◌∷◌, replicate}
use Rattle.questions.specs.Questions.{all, cells_hold}
use Rattle.reading.specs.WithoutBuffers.{lent}
use Rattle.clean.specs.Clean.{Outcome, outcome}

unfoldable zeros : List ℕ
zeros = replicate 8836 0

abbrev call : List ℕ → ℕ → List ℕ → Outcome
call cells initial input = outcome (lent cells initial 0 input)

abbrev yes : Outcome
yes = record { refused = 0; clean = 1 }

abbrev no : Outcome
no = record { refused = 0; clean = 0 }

record Worked : Type 0 where
  -- ステレオ, and nothing
  stereo : call zeros 0 (0x1B ∷ 0x7C ∷ 0xB9 ∷ 0xC6 ∷ 0xEC ∷ 0xAA ∷ []) ≡ yes
  nothing : call zeros 0 [] ≡ yes
  -- Truncated, at the first byte and at the last
  first : call zeros 0 (0x24 ∷ 0xA2 ∷ []) ≡ no
  last : call zeros 0 (0xA2 ∷ 0x24 ∷ []) ≡ no
  -- a mark waits at the end, and before a base: row 1, cell 13
  waits : call zeros 0 (0x21 ∷ 0x2D ∷ []) ≡ no
  based : call zeros 0 (0x21 ∷ 0x2D ∷ 0xA2 ∷ []) ≡ yes
  -- a macro's body: an undefined control in it is an issue, a kana is not
  body : call zeros 1 (0x95 ∷ 0x41 ∷ 0x21 ∷ 0xA0 ∷ 0x95 ∷ 0x4F ∷ []) ≡ no
  kana : call zeros 1 (0x95 ∷ 0x41 ∷ 0x21 ∷ 0xA2 ∷ 0x95 ∷ 0x4F ∷ []) ≡ yes
  -- questions 1 and 2
  table : call [] 2 [] ≡ record { refused = 1; clean = 0 }
  option : call zeros 2 [] ≡ record { refused = 2; clean = 0 }

worked : Worked
unfolding outcome zeros cells_hold all
worked = record { stereo = refl; nothing = refl; first = refl; last = refl; waits = refl; based = refl; body = refl; kana = refl; table = refl; option = refl }
