-- `encode_backtrack::first_of` meets its contract: the loop's invariant: no node before the i-th has the cost. Assumes nothing.
use mathlib.Core.List.{List}
use Rattle.coding.specs.Candidates.{Cand}
use Rattle.encode_layer.specs.Entries.{layer_of}
use Rattle.encode_backtrack.proofs.Nodes.{Passed}
use Rattle.encode_backtrack.proofs.first_of.Given as goal

abbrev pub invariant-loop-i : goal.invariant-loop-i
invariant-loop-i l = ((cs : List Cand) → Passed l.cost (layer_of cs l.store l.from l.count) l.i)
