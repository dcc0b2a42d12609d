-- `report` meets its contract. The invariant: the place and the first i numbers are put. Assumes nothing.
use mathlib.Core.Path.{◌≡◌}
use lib.ListN.{length, take}
use lib.Seq.{sets}
use Rattle.text_counts.proofs.report.Given as goal

abbrev pub invariant-loop-i : goal.invariant-loop-i
invariant-loop-i l = l.counts ≡ sets l.initial.counts 1 (take l.i l.numbers)
