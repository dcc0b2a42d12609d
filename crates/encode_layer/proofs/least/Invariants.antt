-- `encode_layer::least` meets its contract: the layer's least cost, 0 where it has no node.
use mathlib.Core.Path.{◌≡◌}
use mathlib.Core.List.{List}
use Prim.Native.Nat.{◌<◌}
use lib.ListN.{drop}
use Rattle.coding.specs.Candidates.{Cand}
use Rattle.coding.specs.Search.{least}
use Rattle.encode_layer.specs.Entries.{layer_of}
use Rattle.encode_layer.proofs.least.Given as goal

abbrev pub invariant-loop-i : goal.invariant-loop-i
invariant-loop-i l = (l.i < l.count) × ((cs : List Cand) → l.best ≡ least (drop l.i (layer_of cs l.store l.from l.count)))
