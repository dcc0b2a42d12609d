-- `rise` meets its contract: what is left to ask of the places is what was asked of all. Assumes nothing.
use Prim.Native.Nat.{◌-◌, ◌*◌, ◌≤◌}
use mathlib.Core.Path.{◌≡◌}
use lib.ListN.{drop}
use Rattle.catalogue_form.specs.Promises.{places_hold}
use Rattle.catalogue_form.proofs.rise.Given as goal

abbrev pub invariant-loop-i : goal.invariant-loop-i
invariant-loop-i l = ((l.least ≤ 0x100000000) × (places_hold 0 l.n l.places ≡ places_hold l.least (l.n - l.i) (drop (l.i * 260) l.places)))
