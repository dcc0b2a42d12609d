-- Cases of the definitions, computed.
use Rattle.std.specs.Prelude.{◌≡◌, refl, [], ◌∷◌}
use Rattle.text_counts.specs.Counts.{fronted, escape_start}

-- a slice of two counts and one of five
reaches : (fronted (7 ∷ 8 ∷ []) (1 ∷ 2 ∷ 3 ∷ 4 ∷ []) ≡ 1 ∷ 2 ∷ []) × (fronted (5 ∷ 6 ∷ 7 ∷ 8 ∷ 9 ∷ []) (1 ∷ 2 ∷ 3 ∷ 4 ∷ []) ≡ 1 ∷ 2 ∷ 3 ∷ 4 ∷ 9 ∷ [])
reaches = (refl, refl)

-- within an input of five bytes, at its end, past it, and too long
starts : escape_start 5 1 3 ∷ escape_start 5 5 0 ∷ escape_start 5 6 0 ∷ escape_start 5 3 3 ∷ [] ≡ 1 ∷ 5 ∷ 0 ∷ 0 ∷ []
unfolding escape_start
starts = refl
