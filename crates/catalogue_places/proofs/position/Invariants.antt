-- `position` meets its contract: the entries before those that are left are counted. Assumes nothing.
use Prim.Native.Nat.{◌+◌}
use mathlib.Core.Path.{◌≡◌}
use lib.ListN.{drop}
use Rattle.catalogue_form.specs.Form.{entries_of}
use Rattle.catalogue_places.specs.Promises.{before}
use Rattle.catalogue_places.proofs.position.Given as goal

abbrev pub invariant-loop-i : goal.invariant-loop-i
invariant-loop-i l = before l.number (entries_of l.n l.places) ≡ l.i + before l.number (drop l.i (entries_of l.n l.places))
