-- The cell table of a program, from its file `jis.tab`: 01, below "The table of twelve".
use Rattle.std.specs.Prelude.{ℕ, ◌+◌, ◌*◌, Bool, true, false, cond, List, [], ◌∷◌, eqb, length, replicate}

-- "the big-endian file `jis.tab`": two bytes a number
unfoldable pub big_endian : List ℕ → List ℕ
big_endian [] = []
big_endian (h ∷ []) = []
big_endian (h ∷ (l ∷ rest)) = (h * 256 + l) ∷ big_endian rest

-- Whether there is a file, and its bytes: "or zeros if absent". "A `jis.tab` that is not 17,672 bytes long fails question 1", as a table of no
-- numbers does
unfoldable pub cell_table : Bool → List ℕ → List ℕ
unfolding big_endian
cell_table false bytes = replicate 8836 0
cell_table true bytes = cond (eqb (length bytes) 17672) (big_endian bytes) []
