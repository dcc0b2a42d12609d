-- Private-use characters and their count: request 6 of docs/REQUESTS.md.
use Rattle.std.specs.Prelude.{ℕ, suc, ◌≡◌, refl, Bool, cond, ◌&&◌, List, [], ◌∷◌, leb}

-- "characters from U+E000 to U+F8FF"
unfoldable pub is_private_use : ℕ → Bool
is_private_use c = leb 0xE000 c && leb c 0xF8FF

-- "the private-use characters in its text, each repeat counted"
unfoldable pub private_use : List ℕ → ℕ
unfolding is_private_use
private_use [] = 0
private_use (c ∷ cs) = cond (is_private_use c) (suc (private_use cs)) (private_use cs)

-- Worked: the first and the last, what stands before and behind them, the placeholder, one of another plane, and one twice.
worked :
    private_use (0xDFFF ∷ 0xE000 ∷ 0xF8FF ∷ 0xF900 ∷ []) ∷ private_use (0xFFFD ∷ 0xF0000 ∷ []) ∷ private_use (0xE290 ∷ 0x3042 ∷ 0xE290 ∷ []) ∷ [] ≡ 2 ∷ 0 ∷ 2 ∷ []
unfolding private_use
worked = refl
