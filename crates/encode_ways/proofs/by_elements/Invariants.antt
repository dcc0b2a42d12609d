-- `encode_ways::by_elements` meets its contract: pushes the ways through each code element.
use mathlib.Core.Path.{◌≡◌}
use mathlib.Core.List.{List}
use Prim.Native.Nat.{ℕ, ◌+◌, ◌≤◌}
use lib.ListN.{length}
use Rattle.coding.specs.Candidates.{Cand}
use Rattle.coding.specs.Search.{by_ways}
use Rattle.encode_states.specs.Packed.{set_of, unpack}
use Rattle.encode_layer.specs.Layer.{bounds, Pushes}
use Rattle.encode_ways.specs.Turn.{Turn, By, up_to}
use Rattle.encode_ways.proofs.by_elements.Given as goal

abbrev pub invariant-loop-n : goal.invariant-loop-n
invariant-loop-n l =
    (length l.store ≡ length l.initial.store) ×
    ((cs : List Cand) (most : ℕ) (t : Turn) → By cs t l.x l.entry.cost l.entry.link → l.entry.cost + 6 ≤ most →
    Pushes cs (bounds l.part.from l.part.cap l.part.buckets most) l.initial.store l.count l.store l.c (by_ways t.base t.place t.pre t.code (up_to (unpack l.entry.state) (set_of l.x) l.n)))
