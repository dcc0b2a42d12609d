-- Worked examples, computed: the coding rows of 01's table of twelve, as whole outcomes. The crate `laws` has more.
use Rattle.std.specs.Prelude.{ℕ, ◌≡◌, refl, List, [], ◌∷◌, replicate}
use Rattle.questions.specs.Questions.{cells_hold, all}
use Rattle.utf8.specs.Utf8.{utf8s}
use Rattle.coding.specs.Call.{Outcome, outcome}

-- "Si, CharacterSize and a zero cell table unless said": a call with a cell table, a width, a store of some numbers, a buffer of some bytes, a text
abbrev pub codes_with : List ℕ → ℕ → ℕ → ℕ → List ℕ → Outcome
codes_with cells width store room text = outcome (record { cells = cells; initial = 0; width = width; text = utf8s text; store_room = store; coding_room = room })

abbrev pub zeros : List ℕ
zeros = replicate 8836 0

abbrev pub codes : ℕ → ℕ → List ℕ → Outcome
codes store room text = codes_with zeros 0 store room text

-- a call with a store of some numbers is accepted: the length, the gap, the buffer
abbrev pub accepted : ℕ → ℕ → ℕ → List ℕ → Outcome
accepted store length gap buffer = record { refused = 0; place = 0; length = length; gap = gap; buffer = buffer; store = replicate store 0 }

-- a call with a store of some numbers and a buffer of some bytes is refused: the number, the place
abbrev pub refused : ℕ → ℕ → ℕ → ℕ → Outcome
refused store room number place = record { refused = number; place = place; length = 0; gap = 0; buffer = replicate room 0; store = replicate store 0 }

-- The four rows
pub record Rows : Type 0 where
  pub fullwidth_a : codes 32 2 (0xFF21 ∷ []) ≡ accepted 32 2 0 (0x0E ∷ 0x41 ∷ [])
  pub space : codes 8 1 (0x3000 ∷ []) ≡ accepted 8 1 0 (0x20 ∷ [])
  pub narrow_a : codes 32 3 (0x41 ∷ []) ≡ accepted 32 3 0 (0x89 ∷ 0x0E ∷ 0x41 ∷ [])
  pub narrow_a_short : codes 31 3 (0x41 ∷ []) ≡ refused 31 3 7 0
  pub baseless : codes 32 2 (1 ∷ 10 ∷ 0x301 ∷ []) ≡ refused 32 2 5 2

pub rows : Rows
unfolding outcome utf8s cells_hold all
rows = record { fullwidth_a = refl; space = refl; narrow_a = refl; narrow_a_short = refl; baseless = refl }
