-- `merge` meets its contract: the turns, and the rest of the run that is left. Assumes nothing.
use native.Mathlib.Omega.{arith}
use lib.Seq.{length-slice}
use Rattle.catalogue_distinct.proofs.Standing.{stands_end}
use Rattle.catalogue_distinct.proofs.merge.Goals as goal

pub copy-requires : goal.copy-requires
copy-requires c =
    let s = c.turns-h.ensures.stands in
    let long = length-slice c.turns-h.result.left c.args.a c.turns-h.new.runs (omega arith) in
    (s.right_end, omega arith, omega (arith, c.copy-put.ensures.next, long, s.few))

pub returns : goal.returns
returns c =
    let whole = stands_end _ _ _ _ _ _ _ _ _ _ _ _ _ _ c.turns-h.ensures c.requires.left_end (omega arith) (omega arith) c.copy-put.ensures c.copy.ensures in
    record { merged = whole.0; few = whole.1 }
