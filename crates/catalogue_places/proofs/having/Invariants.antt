-- `having` meets its contract: of the entries from the last on so many have the key. Assumes nothing.
use Prim.Native.Nat.{◌+◌, ◌≤◌}
use lib.ListN.{drop}
use Rattle.catalogue_form.specs.Form.{entries_of}
use Rattle.catalogue_places.proofs.Looking.{Counted}
use Rattle.catalogue_places.proofs.having.Given as goal

abbrev pub invariant-loop-i : goal.invariant-loop-i
invariant-loop-i l = (l.entries + l.i ≤ l.n) × Counted l.key (drop l.i (entries_of l.n l.places)) l.entries l.number
