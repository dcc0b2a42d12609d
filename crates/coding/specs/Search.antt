-- The search: 01, "The search, in short", and encode.rs, `encode_with`.
use Rattle.std.specs.Prelude.{ℕ, zero, suc, ◌+◌, ◌-◌, min, true, false, cond, List, [], ◌∷◌, ◌++◌, map, eqb, leb, length}
use Rattle.control.specs.Codes.{MSZ, NSZ}
use Rattle.coding.specs.State.{State, start, same_state, resize}
use Rattle.coding.specs.Candidates.{Size, either, narrow, wide, Cand, graphic, plain, rest_of}
use Rattle.coding.specs.Ways.{Way, ways}

-- a state reached: its cost, "the bytes written so far"; the place in the layer before of the state from which it was reached; and what was
-- written from there
pub record Node : Type 0 where
  pub state : State
  pub cost : ℕ
  pub prev : ℕ
  pub bytes : List ℕ

-- the node reached from the i-th, of cost `base`, by bytes
abbrev pub node : ℕ → ℕ → State → List ℕ → Node
node base i s bs = record { state = s; cost = base + length bs; prev = i; bytes = bs }

-- "A state reached more than once stands there once, at its least cost", the first on ties, in the place of the first reach
unfoldable pub push : List Node → Node → List Node
unfolding same_state
push [] n = n ∷ []
push (m ∷ ms) n = elim (same_state m.state n.state) [ true ↦ cond (leb m.cost n.cost) m n ∷ ms | false ↦ m ∷ push ms n ]

-- the size control before a candidate of a size: MSZ where it is narrow and the state wide, NSZ where it is wide and the state narrow
unfoldable pub size_bytes : State → Size → List ℕ
size_bytes s either = []
size_bytes s narrow = cond (eqb s.narrow 0) (MSZ ∷ []) []
size_bytes s wide = cond (eqb s.narrow 1) (NSZ ∷ []) []

-- the state after it
unfoldable pub sized : State → Size → State
sized s either = s
sized s narrow = resize s 1
sized s wide = resize s 0

-- the nodes that the i-th, of cost `base`, reaches by ways, after the bytes pre
unfoldable pub by_ways : ℕ → ℕ → List ℕ → List ℕ → List Way → List Node
by_ways base i pre code [] = []
by_ways base i pre code (w ∷ ws) = node base i w.to (pre ++ (w.pre ++ map (λ b. b + w.hi) code)) ∷ by_ways base i pre code ws

-- those that the i-th node n reaches by a candidate
unfoldable pub by_cand : Node → ℕ → Cand → List Node
unfolding size_bytes sized by_ways ways
by_cand n i (graphic x code size) = by_ways n.cost i (size_bytes n.state size) code (ways (sized n.state size) x)
by_cand n i (plain b size) = node n.cost i (sized n.state size) (size_bytes n.state size ++ (b ∷ [])) ∷ []

unfoldable pub push_all : List Node → List Node → List Node
unfolding push
push_all layer [] = layer
push_all layer (n ∷ ns) = push_all (push layer n) ns

unfoldable pub by_cands : Node → ℕ → List Node → List Cand → List Node
unfolding push_all by_cand
by_cands n i layer [] = layer
by_cands n i layer (c ∷ cs) = by_cands n i (push_all layer (by_cand n i c)) cs

-- "Each layer is every state that a state kept just before it reaches by one way of writing the next character"
unfoldable pub reach : List Cand → List Node → ℕ → List Node → List Node
unfolding by_cands
reach cs [] i layer = layer
reach cs (n ∷ ns) i layer = reach cs ns (suc i) (by_cands n i layer cs)

-- a layer's least cost
unfoldable pub least : List Node → ℕ
least [] = 0
least (n ∷ []) = n.cost
least (n ∷ m ∷ ns) = min n.cost (least (m ∷ ns))

-- "each of its states that costs over the layer's least cost + 10 is dropped and the others are kept"
abbrev pub top : List Node → ℕ
top full = least full + 10

unfoldable pub keep : ℕ → List Node → List Node
keep most [] = []
keep most (n ∷ ns) = elim (leb n.cost most) [ true ↦ n ∷ keep most ns | false ↦ keep most ns ]

-- "the least, over all dropped states, of the state's cost plus the shortest candidate code of each character after it": kept as 0 where nothing
-- was dropped, else as one more than it
unfoldable pub lower : ℕ → ℕ → ℕ
lower zero b = suc b
lower (suc a) b = suc (min a b)

unfoldable pub floor_of : ℕ → ℕ → ℕ → List Node → ℕ
unfolding lower
floor_of most rest f [] = f
floor_of most rest f (n ∷ ns) = floor_of most rest (cond (leb n.cost most) f (lower f (n.cost + rest))) ns

-- where the search stands: the kept layers, the newest first; and the floor of what was dropped so far, 0 for none, else one more than it
pub record Run : Type 0 where
  pub layers : List (List Node)
  pub floor : ℕ

unfoldable pub newest : List (List Node) → List Node
newest [] = []
newest (l ∷ ls) = l

-- a layer that was reached, before the characters with the candidates css
unfoldable pub layer : Run → List Node → List (List Cand) → Run
unfolding least keep floor_of rest_of
layer r full css = record { layers = keep (top full) full ∷ r.layers; floor = floor_of (top full) (rest_of css) r.floor full }

-- "before the first layer stands the start alone, kept at cost 0"
abbrev pub alone : ℕ → List Node
alone initial = node 0 0 (start initial) [] ∷ []

unfoldable pub begin : ℕ → Run
unfolding start
begin initial = record { layers = alone initial ∷ []; floor = 0 }

-- a layer for each character, by its candidates
unfoldable pub run : List (List Cand) → Run → Run
unfolding layer reach newest
run [] r = r
run (cs ∷ css) r = run css (layer r (reach cs (newest r.layers) 0 []) css)

-- the place of the first node of a cost
unfoldable pub first_of : ℕ → List Node → ℕ
first_of c [] = 0
first_of c (n ∷ ns) = elim (eqb n.cost c) [ true ↦ 0 | false ↦ suc (first_of c ns) ]

-- what was written to the i-th node, and the place before it
unfoldable pub node_at : List Node → ℕ → List ℕ × ℕ
node_at [] i = ([], 0)
node_at (n ∷ ns) zero = (n.bytes, n.prev)
node_at (n ∷ ns) (suc i) = node_at ns i

-- the bytes that lead to the i-th node of the newest layer, before acc
unfoldable pub back : List (List Node) → ℕ → List ℕ → List ℕ
unfolding node_at
back [] i acc = acc
back (l ∷ ls) i acc = back ls (node_at l i).1 ((node_at l i).0 ++ acc)

-- what the search gives: the coding and the gap
pub record Coded : Type 0 where
  pub out : List ℕ
  pub gap : ℕ

-- "The gap is the coding's length less the floor, or 0 if that is negative or nothing was dropped"
unfoldable pub gap_of : ℕ → ℕ → ℕ
gap_of len zero = 0
gap_of len (suc f) = len - f

-- "the coding is the one that leads to the cheapest of the states kept last", the first on ties
unfoldable pub finish : Run → Coded
unfolding back first_of least newest gap_of
finish r =
    let last : List Node = newest r.layers in
    let out : List ℕ = back r.layers (first_of (least last) last) [] in
    record { out = out; gap = gap_of (length out) r.floor }

-- the coding of characters, by their candidates
unfoldable pub code : List (List Cand) → ℕ → Coded
unfolding finish run begin
code css initial = finish (run css (begin initial))
