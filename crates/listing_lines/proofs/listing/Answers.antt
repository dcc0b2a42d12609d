-- `listing` meets its contract: the cell table, then the lines. Assumes nothing.
use Prim.Native.Nat.{ℕ}
use lib.ListN.{length-replicate}
use Rattle.ascii.proofs.Writing.{printed_as}
use Rattle.listing_lines.proofs.Outcomes.{listing_as}
use Rattle.listing_lines.proofs.listing.Goals as goal

pub returns : goal.returns
returns c =
    printed_as (listing_as _ _ _ _ (c.fill-n.ensures.table (length-replicate {A = ℕ} 8836 0))) c.decoded_lines.ensures
