-- Cases of the definitions, computed.
use Rattle.std.specs.Prelude.{ℕ, ◌≡◌, refl, true, false, List, [], ◌∷◌, map, set, replicate}
use Rattle.questions.specs.Questions.{all, cells_hold, first_refusal, decode_limit, encode_limit}
use Rattle.questions.specs.Buffer.{padded, cleared_to, cleared}

unfoldable zeros : List ℕ
zeros = replicate 8836 0

-- the numbers round the surrogates, and the cells round the rows that are to be zero
cells : (
    map (λ (x : ℕ). cells_hold (set zeros 0 x)) (0 ∷ 0xD7FF ∷ 0xD800 ∷ 0xDFFF ∷ 0xE000 ∷ [])
    ≡ true ∷ true ∷ false ∷ false ∷ true ∷ []
    )
    × (
    map (λ (k : ℕ). cells_hold (set zeros k 1)) (751 ∷ 752 ∷ 1409 ∷ 1410 ∷ 7895 ∷ 7896 ∷ 8835 ∷ [])
    ≡ true ∷ false ∷ false ∷ true ∷ true ∷ false ∷ false ∷ []
    )
unfolding zeros cells_hold all
cells = (refl, refl)

-- the first question that is answered no decides; 256 is no option; a length at the limit passes
refusals :
    first_refusal [] 2 0 decode_limit 65536
    ∷ first_refusal zeros 2 0 decode_limit 65536
    ∷ first_refusal zeros 0 256 decode_limit 0
    ∷ first_refusal zeros 1 1 decode_limit 65536
    ∷ first_refusal zeros 1 1 decode_limit 65535
    ∷ first_refusal zeros 0 0 encode_limit 7282
    ∷ first_refusal zeros 0 0 encode_limit 7281
    ∷ []
    ≡ 1 ∷ 2 ∷ 2 ∷ 3 ∷ 0 ∷ 3 ∷ 0 ∷ []
unfolding zeros first_refusal cells_hold all
refusals = refl

buffers : (padded 4 (7 ∷ 8 ∷ []) ≡ 7 ∷ 8 ∷ 0 ∷ 0 ∷ []) × (cleared (7 ∷ 8 ∷ 9 ∷ []) 1 ≡ 7 ∷ 0 ∷ 0 ∷ [])
unfolding padded cleared_to
buffers = (refl, refl)
