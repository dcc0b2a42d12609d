-- The layers of the search as they stand in the store.
use Rattle.std.specs.Prelude.{ℕ, zero, suc, ◌+◌, ◌-◌, ◌*◌, ◌/◌, ◌%◌, ◌≤◌, ◌<◌, ◌≡◌, Bool, true, false, List, [], ◌∷◌, length, map, get_or, drop, Option, Some, None}
use Rattle.base.specs.Lists.{All}
use Rattle.coding.specs.Candidates.{Cand, candidates, candidates_of, rest_of, shortest}
use Rattle.coding.specs.Search.{Node, Run, reach, top, keep, floor_of, alone, run, begin, node_at}
use Rattle.coding.specs.Store.{needs, fit}
use Rattle.tables_reverse.specs.Reverse.{kanji_reverse, additional_reverse}
use Rattle.encode_candidates.specs.Packed.{packed}
use Rattle.encode_tokens.specs.Promises.{character}
use Rattle.encode_tokens.specs.declared.Character.{Character}
use Rattle.encode_candidates.specs.declared.candidate.Candidate.{Candidate}
use Rattle.encode_search.specs.declared.Stand.{Stand}
use Rattle.encode_search.specs.declared.Last.{Last}
use Rattle.encode_states.specs.Written.{written}
use Rattle.encode_layer.specs.Entries.{entries_of, layer_of}
use Rattle.encode_layer.specs.Layer.{Sound, bounds, Represents}
use Rattle.encode_layer.specs.Kept.{older}
use Rattle.encode_ways.specs.Turn.{MatchAll}

-- what `reach` makes of the first pcount nodes: a layer behind them, of r nodes, that stands for the definition's, for a character with the candidates
pub record Reached (s s' : List ℕ) (pcount cap buckets : ℕ) (candidates : List Candidate) (r : ℕ) : Type 0 where
  pub before : entries_of s' 0 pcount ≡ entries_of s 0 pcount
  pub stands : (cs cs₀ : List Cand) (b most : ℕ) → MatchAll cs candidates → All (Sound b) (entries_of s 0 pcount) → b + 9 ≤ most →
      Represents cs (bounds pcount cap buckets most) s' r (reach cs (layer_of cs₀ s 0 pcount) 0 [])

-- how many nodes have room from the node from on, in a part of len numbers; more than any layer has count as one more than that
pub record Capped (len from cap : ℕ) : Type 0 where
  pub few : cap ≤ 48385
  pub inside : (from + cap) * 4 ≤ len
  pub exact : cap ≤ 48384 → from + cap ≡ len / 4

-- the layer l, reached from the first pcount nodes, is kept from the number pcount on, and the floor is the definition's
pub record Next (s s' : List ℕ) (cs : List Cand) (pcount count rest floor floor' : ℕ) (l : List Node) : Type 0 where
  pub room : (pcount + length l) * 4 ≤ length s
  pub layer : layer_of cs (drop pcount s') 0 count ≡ keep (top l) l
  pub lowers : floor' ≡ floor_of (top l) rest floor l

-- the next layer, where it fits the store, is kept behind the nodes of the newest one, each of which has its one number
pub record Stepped (s s' : List ℕ) (at : Stand) (candidates : List Candidate) (r : Stand) : Type 0 where
  pub few : r.count ≤ 48384
  pub inside : at.count + r.count * 4 ≤ length s
  pub behind : r.before ≡ at.count
  pub rest : r.rest ≡ at.rest
  pub sound : (b : ℕ) → All (Sound b) (entries_of s 0 at.count) → All (Sound (b + 9)) (entries_of (drop at.count s') 0 r.count)
  pub squeezed : (i : ℕ) → i < at.count → get_or s' i 0 ≡ older (get_or s (i * 4 + 2) 0) (at.before + i)
  pub kept : (cs cs₀ : List Cand) → MatchAll cs candidates → Next s s' cs at.count r.count at.rest at.floor r.floor (reach cs (layer_of cs₀ s 0 at.count) 0 [])

-- what becomes of it: it is too large for the store, or is kept
abbrev pub Advanced : List ℕ → List ℕ → Stand → List Candidate → Option Stand → Type 0
Advanced s s' at candidates None = (cs cs₀ : List Cand) → MatchAll cs candidates → length s < (at.count + length (reach cs (layer_of cs₀ s 0 at.count) 0 [])) * 4
Advanced s s' at candidates (Some r) = Stepped s s' at candidates r

-- x is a character with its cells of the Kanji set and of the additional symbols, by the cell table
pub record HasCells (cells : List ℕ) (x : Character) : Type 0 where
  pub kanji : x.kanji ≡ packed (kanji_reverse cells x.char)
  pub symbol : x.symbol ≡ packed (additional_reverse x.char)

-- the same for a character, over every cell table in which it has its cells
pub record TurnedOn (s s' : List ℕ) (at : Stand) (x : Character) (annex_e : Bool) (r : Stand) : Type 0 where
  pub few : r.count ≤ 48384
  pub inside : at.count + r.count * 4 ≤ length s
  pub behind : r.before ≡ at.count
  pub less : r.rest ≤ at.rest
  pub sound : (b : ℕ) → All (Sound b) (entries_of s 0 at.count) → All (Sound (b + 9)) (entries_of (drop at.count s') 0 r.count)
  pub squeezed : (i : ℕ) → i < at.count → get_or s' i 0 ≡ older (get_or s (i * 4 + 2) 0) (at.before + i)
  pub left : (cells : List ℕ) → HasCells cells x → r.rest ≡ at.rest - shortest (candidates cells annex_e x.char)
  pub kept : (cells : List ℕ) → HasCells cells x → (cs₀ : List Cand) →
      Next s s' (candidates cells annex_e x.char) at.count r.count r.rest at.floor r.floor (reach (candidates cells annex_e x.char) (layer_of cs₀ s 0 at.count) 0 [])

abbrev pub Turned : List ℕ → List ℕ → Stand → Character → Bool → Option Stand → Type 0
Turned s s' at x annex_e None = (cells : List ℕ) → HasCells cells x → (cs₀ : List Cand) →
    length s < (at.count + length (reach (candidates cells annex_e x.char) (layer_of cs₀ s 0 at.count) 0 [])) * 4
Turned s s' at x annex_e (Some r) = TurnedOn s s' at x annex_e r

-- the candidates of the character after j - 1 others, none before the first
unfoldable pub last_of : List (List Cand) → ℕ → List Cand
last_of css zero = []
last_of css (suc j) = get_or css j []

-- An older layer l, of a character with the candidates cs, as the store has it from the number from on, the layer before being of `before` numbers:
-- of each node how it was written, and how far before it the node stands from which it was reached.
pub record OneNumber (cs : List Cand) (s : List ℕ) (from before : ℕ) (l : List Node) (i : ℕ) : Type 0 where
  pub how : written cs (get_or s (from + i) 0 / 131072) ≡ (node_at l i).0
  pub far : get_or s (from + i) 0 % 131072 ≡ before + i - (node_at l i).1

-- The first j layers, the newest first, as so many numbers each, up to the number `end`; the newest of them is of count numbers. The start is the first.
pub data Older (css : List (List Cand)) (s : List ℕ) : ℕ → ℕ → ℕ → List (List Node) → Type 0 where
  none : Older css s 0 0 0 []
  behind : {j from before : ℕ} {ls : List (List Node)} (end count : ℕ) (l : List Node) → Older css s j from before ls → end ≡ from + count → count ≡ length l →
      ((i : ℕ) → i < count → OneNumber (last_of css j) s from before l i) → Older css s (suc j) end count (l ∷ ls)

-- the layers after j characters: the newest of count nodes from the number from on, all others before it, the one before it of `before` numbers
pub record Layers (css : List (List Cand)) (s : List ℕ) (j from count before : ℕ) (ls : List (List Node)) : Type 0 where
  pub rest : List (List Node)
  pub whole : ls ≡ layer_of (last_of css j) (drop from s) 0 count ∷ rest
  pub others : Older css s j from before rest

-- what the search of characters with the candidates css leads to
abbrev pub found : List (List Cand) → ℕ → Run
found css initial = run css (begin initial)

-- it is in the store
pub record Found (css : List (List Cand)) (initial : ℕ) (s : List ℕ) (n from count before floor : ℕ) : Type 0 where
  pub room : fit (length s) (needs css initial) ≡ true
  pub layers : Layers css s n from count before (found css initial).layers
  pub floors : (found css initial).floor ≡ floor

-- the newest layer is inside the store, and neither it nor the one before it has more states than the coder
pub record Inside (s : List ℕ) (from count before : ℕ) : Type 0 where
  pub store : from + count * 4 ≤ length s
  pub few : count ≤ 48384
  pub before_few : before ≤ 48384

-- What `search` promises of characters, which have shortest codes of rest bytes, where their layers fit the store: where these are then.
pub record Led (xs : List Character) (annex_e : Bool) (initial rest : ℕ) (s s' : List ℕ) (l : Last) : Type 0 where
  pub inside : Inside s l.from l.count l.before
  pub done : (cells cs : List ℕ) → xs ≡ map (character cells) cs → rest ≡ rest_of (candidates_of cells annex_e cs) →
      Found (candidates_of cells annex_e cs) initial s' (length xs) l.from l.count l.before l.floor

-- and where they do not
abbrev pub Searched : List Character → Bool → ℕ → ℕ → List ℕ → List ℕ → Option Last → Type 0
Searched xs annex_e initial rest s s' None = (cells cs : List ℕ) → xs ≡ map (character cells) cs → fit (length s) (needs (candidates_of cells annex_e cs) initial) ≡ false
Searched xs annex_e initial rest s s' (Some l) = Led xs annex_e initial rest s s' l

-- the start stands in the store
abbrev pub Begins : ℕ → List ℕ → Type 0
Begins initial s = layer_of [] s 0 1 ≡ alone initial

-- the characters are few enough that costs stay below 65,536
pub record Few (xs : List Character) (rest : ℕ) : Type 0 where
  pub few : length xs ≤ 7281
  pub rest_small : rest ≤ 65535
