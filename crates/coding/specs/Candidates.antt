-- The candidate codes of a character: encode.rs, `candidates`.
use Rattle.std.specs.Prelude.{ℕ, ◌+◌, min, Bool, true, false, cond, List, [], ◌∷◌, ◌++◌, eqb, length}
use Rattle.std.proofs.Math.Option.{Option, none, some}
use Rattle.base.specs.Lists.{when}
use Rattle.control.specs.Codes.{APR, SP}
use Rattle.tables.specs.Kanji.{non_spacing, has_character, cell_with}
use Rattle.tables_onebyte.specs.Reverse.{one_byte_reverse}
use Rattle.tables_reverse.specs.Reverse.{kanji_reverse, additional_reverse}
use Rattle.tables_onebyte.specs.declared.OneByteTable.TheVariants.{Alphanumeric, Fullwidth, Hiragana, Katakana, JisX0201Katakana}

-- "the candidate's size"
pub data Size : Type 0 where
  -- "a candidate to which 000 gives no width goes under either"
  either : Size
  -- "MSZ narrow"
  narrow : Size
  -- "NSZ or the start wide"
  wide : Size

-- `Cand`: a code of a graphic set in GL form, or SP or APR, which need no set
pub data Cand : Type 0 where
  graphic : (x : ℕ) (code : List ℕ) (size : Size) → Cand
  plain : (byte : ℕ) (size : Size) → Cand

-- a code of a one-byte set, a cell of a two-byte set, as a candidate
unfoldable pub of_code : ℕ → Size → Option ℕ → List Cand
of_code x size none = []
of_code x size (some b) = graphic x (b ∷ []) size ∷ []

unfoldable pub of_place : ℕ → Size → Option (ℕ × ℕ) → List Cand
of_place x size none = []
of_place x size (some (row, cell)) = graphic x ((0x20 + row) ∷ (0x20 + cell) ∷ []) size ∷ []

-- the alphanumeric whose full-width form is the character, in CharacterSize alone
unfoldable pub fullwidth : Bool → ℕ → List Cand
unfolding of_code one_byte_reverse
fullwidth true c = []
fullwidth false c = of_code 1 wide (one_byte_reverse Fullwidth c)

-- the candidates of a character that is neither newline nor mark, in the Rust's order
unfoldable pub letters : List ℕ → Bool → ℕ → List Cand
unfolding of_code of_place fullwidth one_byte_reverse kanji_reverse additional_reverse
letters cells annex_e c =
    of_code 2 wide (one_byte_reverse Hiragana c) ++ (of_code 3 wide (one_byte_reverse Katakana c) ++ (of_code 1 narrow (one_byte_reverse Alphanumeric c) ++
    (fullwidth annex_e c ++ (of_place 0 wide (kanji_reverse cells c) ++ (of_place 14 wide (additional_reverse c) ++ (of_code 11 narrow (one_byte_reverse JisX0201Katakana c) ++
    (when (eqb c 0x20) (plain SP narrow) ++ cond annex_e [] (when (eqb c 0x3000) (plain SP wide)))))))))

-- `candidates`: a newline is APR, and a mark is coded by its own cell of the seven
unfoldable pub candidates : List ℕ → Bool → ℕ → List Cand
unfolding letters of_place has_character cell_with
candidates cells annex_e c =
    elim (eqb c 10) [
      | true ↦ plain APR either ∷ []
      | false ↦ elim (has_character non_spacing c) [ true ↦ of_place 0 either (cell_with non_spacing c) | false ↦ letters cells annex_e c ]
    ]

-- those of each character
unfoldable pub candidates_of : List ℕ → Bool → List ℕ → List (List Cand)
unfolding candidates
candidates_of cells annex_e [] = []
candidates_of cells annex_e (c ∷ cs) = candidates cells annex_e c ∷ candidates_of cells annex_e cs

-- "counting the code's own one or two bytes without shifts or size controls (1 for newline and SP)"
unfoldable pub code_length : Cand → ℕ
code_length (graphic x code size) = length code
code_length (plain b size) = 1

-- "the shortest candidate code"
unfoldable pub shortest : List Cand → ℕ
unfolding code_length
shortest [] = 0
shortest (c ∷ []) = code_length c
shortest (c ∷ d ∷ cs) = min (code_length c) (shortest (d ∷ cs))

-- ".. of each character after it in that order"
unfoldable pub rest_of : List (List Cand) → ℕ
unfolding shortest
rest_of [] = 0
rest_of (cs ∷ css) = shortest cs + rest_of css
