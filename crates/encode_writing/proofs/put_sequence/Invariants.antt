-- `encode_writing::put_sequence` meets its contract. The loop's invariant: the bytes passed are written. Assumes nothing.
use lib.ListN.{length, take}
use mathlib.Core.Path.{◌≡◌}
use Rattle.lent.specs.Put.{Put}
use Rattle.encode_writing.proofs.put_sequence.Given as goal

abbrev pub invariant-loop-x : goal.invariant-loop-x
invariant-loop-x l = (length l.coding ≡ length l.initial.coding) × Put l.initial.coding l.at (take l.x-index l.q) l.coding l.to
