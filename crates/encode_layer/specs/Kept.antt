-- What is left of a layer whose dear nodes are dropped, and of one that is behind the last two.
use Rattle.std.specs.Prelude.{ℕ, ◌+◌, ◌-◌, ◌*◌, ◌%◌, ◌≤◌, ◌<◌, ◌≡◌, List, get_or, take, drop}
use Rattle.base.specs.Lists.{All}
use Rattle.coding.specs.Candidates.{Cand}
use Rattle.coding.specs.Search.{keep}
use Rattle.encode_layer.specs.Entries.{entries_of, layer_of}
use Rattle.encode_layer.specs.Layer.{Sound}

-- the layer of count nodes from the node from on is, from the number from on, the definition's; its nodes are sound if they were; and the numbers before
-- it are as they were
pub record Kept (s s' : List ℕ) (from count most kept : ℕ) : Type 0 where
  pub layer : (cs : List Cand) → layer_of cs (drop from s') 0 kept ≡ keep most (layer_of cs s from count)
  pub sound : (top : ℕ) → All (Sound top) (entries_of s from count) → All (Sound top) (entries_of (drop from s') 0 kept)
  pub fewer : kept ≤ count
  pub before : take from s' ≡ take from s

-- The one number that a node of an older layer needs, if it stands `place` numbers behind the beginning of the layer before: how it was written × 131,072
-- + how far before it the node stands from which it was reached
abbrev pub older : ℕ → ℕ → ℕ
older link place = link - link % 131072 + (place - link % 131072)

-- the first count nodes of a part are so many numbers, the layer before being of `before` numbers; all behind them is as it was
pub record Squeezed (s s' : List ℕ) (count before : ℕ) : Type 0 where
  pub each : (i : ℕ) → i < count → get_or s' i 0 ≡ older (get_or s (i * 4 + 2) 0) (before + i)
  pub behind : drop count s' ≡ drop count s
