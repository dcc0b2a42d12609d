-- `hexadecimal` meets its contract: the digits of the bytes that are left are still to be written. Assumes nothing.
use Prim.Native.Nat.{◌+◌, ◌*◌}
use mathlib.Core.Path.{◌≡◌}
use lib.ListN.{drop}
use Rattle.ascii.specs.Ascii.{hexadecimal}
use Rattle.lent.proofs.Putting.{Rest}
use Rattle.ascii.proofs.hexadecimal.Given as goal

abbrev pub invariant-loop-b : goal.invariant-loop-b
invariant-loop-b l =
    (l.next ≡ l.at + 2 * l.b-index) × Rest l.initial.out l.at (hexadecimal l.bytes) l.out l.next (hexadecimal (drop l.b-index l.bytes))
