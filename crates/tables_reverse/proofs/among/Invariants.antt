-- `tables_reverse::among` meets its contract. The invariant: whether one of the numbers so far was hit. Assumes nothing.
use Rattle.std.proofs.Common.{◌≡◌, take}
use Rattle.std.specs.List.{list_any}
use Rattle.tables_reverse.proofs.among.Given as goal

abbrev pub invariant-loop-x : goal.invariant-loop-x
invariant-loop-x g l = l.hit ≡ list_any (λ x. g.T.PartialEq.eq x l.c) (take l.x-index l.cells)
