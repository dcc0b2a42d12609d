-- `encoding` meets its contract: the cell table, then the lines. Assumes nothing.
use Prim.Native.Nat.{ℕ}
use lib.ListN.{length-replicate}
use Rattle.ascii.proofs.Writing.{printed_as}
use Rattle.encoding_lines.proofs.Outcomes.{encoding_as}
use Rattle.encoding_lines.proofs.encoding.Goals as goal

pub returns : goal.returns
returns c =
    printed_as (encoding_as _ _ _ _ (c.fill-n.ensures.table (length-replicate {A = ℕ} 8836 0))) c.coded_lines.ensures
