-- `leading` meets its contract: what leads from `from` on ends where what leads from `j` on does. Assumes nothing.
use Prim.Native.Nat.{◌+◌}
use mathlib.Core.Path.{◌≡◌}
use lib.ListN.{drop}
use Rattle.reading.specs.Controls.{leading}
use Rattle.decode_controls.proofs.leading.Given as goal

abbrev pub invariant-loop-j : goal.invariant-loop-j
invariant-loop-j l = l.from + leading 0x20 l.high (drop l.from l.b) ≡ l.j + leading 0x20 l.high (drop l.j l.b)
