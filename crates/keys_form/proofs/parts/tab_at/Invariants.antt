-- `tab_at` meets its contract: no TAB stands before the place. Assumes nothing.
use Prim.Native.Nat.{◌+◌}
use mathlib.Core.Path.{◌≡◌}
use lib.ListN.{drop}
use Rattle.keys_form.specs.Line.{tab_at}
use Rattle.keys_form.proofs.parts.tab_at.Given as goal

abbrev pub invariant-loop-i : goal.invariant-loop-i
invariant-loop-i l = tab_at l.line ≡ l.i + tab_at (drop l.i l.line)
