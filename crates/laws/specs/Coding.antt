-- Worked examples of coding, computed. Whole outcomes: a tie, AnnexE and a cell table that is not zero, a mark, a designation. A search that drops
-- states: its coding, its gap and what its layers need of the store.
use Rattle.std.specs.Prelude.{ℕ, zero, suc, ◌≡◌, refl, false, List, [], ◌∷◌, ◌++◌, replicate}
use Rattle.questions.specs.Questions.{cells_hold, all}
use Rattle.utf8.specs.Utf8.{utf8s}
use Rattle.control.specs.Codes.{SP}
use Rattle.coding.specs.Candidates.{Cand, graphic, plain, narrow, wide, candidates_of}
use Rattle.coding.specs.Search.{code}
use Rattle.coding.specs.Store.{needs, needs_states}
use Rattle.coding.specs.Call.{outcome}
use Rattle.coding.specs.Examples.{codes_with, zeros, codes, accepted}

-- a cell table with U+FF21 at row 3, cell 33, alone
abbrev pub one_cell : List ℕ
one_cell = replicate 220 0 ++ (0xFF21 ∷ replicate 8615 0)

-- Corners of encode.rs
pub record Corners : Type 0 where
  -- "Preferring 23 41 for U+FF21 when its cell is present": of equal costs the state reached first wins
  pub tie : codes_with one_cell 0 36 2 (0xFF21 ∷ []) ≡ accepted 36 2 0 (0x0E ∷ 0x41 ∷ [])
  -- AnnexE has no full-width alphanumerics: the cell is all there is
  pub annex_e : codes_with one_cell 1 8 2 (0xFF21 ∷ []) ≡ accepted 8 2 0 (0x23 ∷ 0x41 ∷ [])
  -- "Marks move before their base"; a byte of the buffer is left
  pub mark : codes 12 4 (0x3042 ∷ 0x301 ∷ []) ≡ accepted 12 3 0 (0x21 ∷ 0x2D ∷ 0xA2 ∷ 0 ∷ [])
  -- MSZ, then JIS X 0201 Katakana is designated to G0, then 31
  pub designation : codes 32 5 (0xFF71 ∷ []) ≡ accepted 32 5 0 (0x89 ∷ 0x1B ∷ 0x28 ∷ 0x49 ∷ 0x31 ∷ [])

pub corners : Corners
unfolding outcome utf8s cells_hold all
corners = record { tie = refl; annex_e = refl; mark = refl; designation = refl }

-- A search that drops states, the candidates being given: U+27A1, a cell of the Kanji set and of the additional symbols; U+301C, a cell of the
-- Kanji set; and six times U+0020 and U+3000, each of which needs a size control
abbrev arrow : List Cand
arrow = graphic 0 (0x7C ∷ 0x21 ∷ []) wide ∷ graphic 14 (0x7C ∷ 0x21 ∷ []) wide ∷ []

abbrev wave : List Cand
wave = graphic 0 (0x21 ∷ 0x41 ∷ []) wide ∷ []

abbrev spaces : ℕ → List (List Cand)
spaces zero = []
spaces (suc n) = (plain SP narrow ∷ []) ∷ (plain SP wide ∷ []) ∷ spaces n

abbrev sized_spaces : ℕ → List ℕ
sized_spaces zero = []
sized_spaces (suc n) = 0x89 ∷ 0x20 ∷ 0x8A ∷ 0x20 ∷ sized_spaces n

pub record Drops : Type 0 where
  pub candidates : candidates_of zeros false (0x27A1 ∷ 0x301C ∷ []) ≡ arrow ∷ wave ∷ []
  -- the second layer drops four states of 21; the floor is 27, a dropped state's 15 and a byte for each space, and the gap 28 - 27
  pub coding : code (arrow ∷ wave ∷ spaces 6) 0 ≡ record { out = 0x7C ∷ 0x21 ∷ 0x21 ∷ 0x41 ∷ sized_spaces 6; gap = 1 }
  -- the start and 8, then the start, 8 and 21, then 9, 17 and 17; after that each layer reaches and keeps 17. Those of the previous layer and those
  -- reached count four numbers, the others one
  pub store : needs (arrow ∷ wave ∷ spaces 6) 0 ≡
      36 ∷ 117 ∷ 145 ∷ 162 ∷ 179 ∷ 196 ∷ 213 ∷ 230 ∷ 247 ∷ 264 ∷ 281 ∷ 298 ∷ 315 ∷ 332 ∷ []
  -- the older count, of states
  pub states : needs_states (arrow ∷ wave ∷ spaces 6) 0 ≡ 9 ∷ 30 ∷ 43 ∷ 60 ∷ 77 ∷ 94 ∷ 111 ∷ 128 ∷ 145 ∷ 162 ∷ 179 ∷ 196 ∷ 213 ∷ 230 ∷ []

pub drops : Drops
unfolding candidates_of code needs needs_states
drops = record { candidates = refl; coding = refl; store = refl; states = refl }
