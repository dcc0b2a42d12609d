-- `encode_ways::by_candidates` meets its contract: pushes the nodes that a node reaches by each of the candidates.
use mathlib.Core.Path.{◌≡◌}
use mathlib.Core.List.{List}
use Prim.Native.Nat.{ℕ, ◌+◌, ◌≤◌}
use lib.ListN.{take}
use Rattle.coding.specs.Candidates.{Cand}
use Rattle.coding.specs.Search.{Node, by_cands}
use Rattle.encode_layer.specs.Entries.{entries_of}
use Rattle.encode_layer.specs.Layer.{bounds, Changes}
use Rattle.encode_ways.specs.Turn.{MatchAll, Is}
use Rattle.encode_ways.proofs.by_candidates.Given as goal

abbrev pub invariant-loop-k : goal.invariant-loop-k
invariant-loop-k l =
    (entries_of l.store 0 l.part.from ≡ entries_of l.initial.store 0 l.part.from) ×
    ((cs : List Cand) (most : ℕ) (n : Node) → MatchAll cs l.candidates → Is n l.entry.state l.entry.cost → l.entry.cost + 9 ≤ most →
    Changes cs (bounds l.part.from l.part.cap l.part.buckets most) l.initial.store l.count l.store l.c (λ p. by_cands n l.entry.link p (take l.k cs)))
