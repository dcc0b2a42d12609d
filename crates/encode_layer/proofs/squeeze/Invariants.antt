-- `encode_layer::squeeze` meets its contract: a node a turn. Assumes nothing.
use Rattle.encode_layer.proofs.Squeezing.{Going}
use Rattle.encode_layer.proofs.squeeze.Given as goal

abbrev pub invariant-loop-i : goal.invariant-loop-i
invariant-loop-i l = Going l.initial.store l.store l.count l.before l.i
