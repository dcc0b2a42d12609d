-- `encode_backtrack::write_back` meets its contract: the loop's invariant: what is behind the k-th character is written, and k characters lead to the node at the number p.
-- Assumes nothing.
use Prim.Native.Nat.{◌≤◌}
use mathlib.Core.List.{[]}
use Rattle.coding.specs.Search.{begin, run, back}
use Rattle.encode_backtrack.specs.Promises.{Searched}
use Rattle.encode_backtrack.proofs.Trail.{Going}
use Rattle.encode_backtrack.proofs.write_back.Given as goal

abbrev pub invariant-loop-k : goal.invariant-loop-k
invariant-loop-k l =
    (l.to ≤ 4294967295) × ((f : Searched l.goal.annex l.characters l.store l.goal.node l.goal.length) →
    Going f.css l.store l.k l.p l.to l.initial.coding l.coding (back (run f.css (begin f.initial)).layers f.place []))
