-- The nodes that a part of the store holds, four numbers a node: three of its own, and one of the chains by which nodes are found.
use Rattle.std.specs.Prelude.{ℕ, ◌+◌, ◌*◌, ◌/◌, ◌%◌, List, [], ◌∷◌, map, take, drop, get_or, set}
use Rattle.coding.specs.Candidates.{Cand}
use Rattle.coding.specs.Search.{Node}
use Rattle.encode_states.specs.Packed.{unpack}
use Rattle.encode_states.specs.Written.{written}
use Rattle.encode_layer.specs.declared.Entry.{Entry}

-- a node's three numbers: the packed state, the cost, and how it was written × 131,072 + its place before
abbrev pub entry : ℕ → ℕ → ℕ → Entry
entry a b c = record { state = a; cost = b; link = c }

-- the node, of a character with the candidates cs
unfoldable pub node_of : List Cand → Entry → Node
unfolding unpack written
node_of cs e = record { state = unpack e.state; cost = e.cost; prev = e.link % 131072; bytes = written cs (e.link / 131072) }

-- all nodes of a part, a remainder unused
unfoldable pub entries : List ℕ → List Entry
entries [] = []
entries (a ∷ []) = []
entries (a ∷ b ∷ []) = []
entries (a ∷ b ∷ c ∷ []) = []
entries (a ∷ b ∷ c ∷ d ∷ xs) = entry a b c ∷ entries xs

-- the count nodes from the node from on
unfoldable pub entries_of : List ℕ → ℕ → ℕ → List Entry
unfolding entries
entries_of s from count = take count (drop from (entries s))

-- they as a layer, of a character with the candidates cs
unfoldable pub layer_of : List Cand → List ℕ → ℕ → ℕ → List Node
unfolding node_of entries_of
layer_of cs s from count = map (node_of cs) (entries_of s from count)

-- the node at a place
abbrev pub entry_at : List ℕ → ℕ → Entry
entry_at s p = entry (get_or s (p * 4) 0) (get_or s (p * 4 + 1) 0) (get_or s (p * 4 + 2) 0)

-- a node written from the number `at` on
abbrev pub set_entry : List ℕ → ℕ → Entry → List ℕ
set_entry s at e = set (set (set s at e.state) (at + 1) e.cost) (at + 2) e.link
