-- `encode_layer::find` meets its contract: the loop's invariant: a node that has the state is come to from the node p, before the last. Assumes nothing.
use Prim.Native.Nat.{◌≤◌}
use Rattle.encode_layer.proofs.Chains.{Sought}
use Rattle.encode_layer.proofs.find.Given as goal

abbrev pub invariant-loop-p : goal.invariant-loop-p
invariant-loop-p l = (l.last ≤ l.count) × Sought l.store l.from l.count l.first l.state l.last l.p

abbrev pub decreases-loop-p : goal.decreases-loop-p
decreases-loop-p l = l.last
