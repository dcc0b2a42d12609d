-- `encode_layer::keep` meets its contract: drops the nodes of the layer that cost over most, which lower the floor, the others moved down.
use Rattle.encode_layer.proofs.Costs.{Floored}
use Rattle.encode_layer.proofs.Keeping.{Going}
use Rattle.encode_layer.proofs.keep.Given as goal

abbrev pub invariant-loop-i : goal.invariant-loop-i
invariant-loop-i l = Going l.initial.store l.store l.from l.count l.most l.i l.kept × Floored l.initial.store l.from l.count l.most l.rest l.low l.f l.i
