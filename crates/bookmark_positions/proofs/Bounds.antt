-- Issues that are placed in a text stand at most where it ends. Assumes nothing.
use Prim.Native.Nat.{ℕ, ◌≤◌}
use mathlib.Core.List.{List}
use lib.ListN.{length}
use Rattle.base.specs.Lists.{All}
use Rattle.utf8.specs.Utf8.{utf8s}
use Rattle.issues.specs.Issue.{Issue}
use Rattle.laws_reading.specs.Positions.{Placed}
use Rattle.laws_reading.proofs.Placed.{placed_inside}

pub placed_most : (before : List ℕ) (is : List Issue) (after : List ℕ) → Placed before is after → All (λ i. i.position ≤ length (utf8s after)) is
placed_most before is after p = placed_inside before after is p
