-- `numbers` meets its contract: the numbers passed are those of the front of the bytes. Assumes nothing.
use Rattle.jis_tab.proofs.Table.{Part}
use Rattle.jis_tab.proofs.numbers.Given as goal

abbrev pub invariant-loop-i : goal.invariant-loop-i
invariant-loop-i l = Part l.bytes l.initial.cells l.cells l.i
