-- Cases of the definitions, computed.
use Rattle.std.specs.Prelude.{ℕ, ◌≡◌, refl, List, [], ◌∷◌, replicate}
use Rattle.questions.specs.Questions.{all, cells_hold}
use Rattle.issues.specs.Issue.{numbers}
use Rattle.reading.specs.Call.{Lent, outcome}
use Rattle.text.specs.Calls.{counts}

lent : List ℕ → ℕ → Lent
lent input text_room = record { cells = replicate 8836 0; initial = 0; width = 0; input = input; text_room = text_room; issue_room = numbers }

-- 24 A2: three bytes of text and one issue; with room for two bytes, 8
truncated : (counts (outcome (lent (0x24 ∷ 0xA2 ∷ []) 3)) ≡ 0 ∷ 3 ∷ 1 ∷ 0 ∷ 0 ∷ []) × (counts (outcome (lent (0x24 ∷ 0xA2 ∷ []) 2)) ≡ 0 ∷ 0 ∷ 0 ∷ 0 ∷ 0 ∷ [])
unfolding counts outcome lent cells_hold all
truncated = (refl, refl)

-- 92-26, U+E290, twice: six bytes, and two private-use characters
twice : counts (outcome (lent (0x98 ∷ 0x42 ∷ 0x7C ∷ 0x3A ∷ []) 6)) ≡ 0 ∷ 6 ∷ 0 ∷ 0 ∷ 2 ∷ []
unfolding counts outcome lent cells_hold all
twice = refl
