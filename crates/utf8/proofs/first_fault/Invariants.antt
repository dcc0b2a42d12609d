-- `utf8::first_fault` meets its contract: from `at` on the first fault is that of the whole text; each turn takes one sequence of one byte at least. Assumes nothing.
use mathlib.Core.Path.{◌≡◌}
use Prim.Native.Nat.{◌-◌, ◌≤◌}
use lib.ListN.{length, drop}
use Rattle.utf8.specs.Utf8.{fault_from, first_fault}
use Rattle.utf8.proofs.first_fault.Given as goal

abbrev pub invariant-loop-n : goal.invariant-loop-n
invariant-loop-n l = (l.at ≤ length l.text) × (first_fault l.text ≡ fault_from l.at 0 (drop l.at l.text))

abbrev pub decreases-loop-n : goal.decreases-loop-n
decreases-loop-n l = length l.text - l.at
