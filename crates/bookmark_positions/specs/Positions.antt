-- The positions of issues, as a buffer holds them, moved by a text before them.
use Rattle.std.specs.Prelude.{ℕ, zero, suc, ◌+◌, List, ◌∷◌, ◌++◌, take, drop, get_or}

-- of n issues, five numbers each, the last number, the position, is greater
unfoldable pub moved : ℕ → ℕ → List ℕ → List ℕ
moved zero by l = l
moved (suc n) by l = take 4 l ++ ((by + get_or l 4 0) ∷ moved n by (drop 5 l))
