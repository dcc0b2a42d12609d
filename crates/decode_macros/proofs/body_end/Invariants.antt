-- `body_end` meets its contract. The invariant: as far as from `from` on, it is from j on. Assumes nothing.
use Prim.Native.Nat.{◌+◌, ◌≤◌}
use mathlib.Core.Path.{◌≡◌}
use lib.ListN.{length, drop}
use Rattle.reading.specs.Macros.{end_of}
use Rattle.decode_macros.proofs.body_end.Given as goal

abbrev pub invariant-loop-j : goal.invariant-loop-j
invariant-loop-j l = (l.j ≤ length l.b) × (l.from + end_of (drop l.from l.b) ≡ l.j + end_of (drop l.j l.b))
