-- `is_number` meets its contract: the digits that are left decide. Assumes nothing.
use Prim.Native.Nat.{◌≤◌}
use mathlib.Core.Path.{◌≡◌}
use lib.ListN.{drop}
use Rattle.keys_form.specs.Line.{is_number}
use Rattle.keys_form.proofs.Reading.{numbers}
use Rattle.keys_form.proofs.parts.is_number.Given as goal

abbrev pub invariant-loop-x : goal.invariant-loop-x
invariant-loop-x l = (l.v ≤ 0xFFFFFFFF) × (is_number l.ds ≡ numbers l.v (drop l.x-index l.ds))
