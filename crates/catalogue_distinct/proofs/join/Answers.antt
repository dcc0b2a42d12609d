-- `join` meets its contract: what the merge put stands in the place of the runs. Assumes nothing.
use native.Mathlib.Omega.{arith}
use Rattle.catalogue_distinct.proofs.Standing.{copied_back}
use Rattle.catalogue_distinct.proofs.join.Goals as goal

pub returns : goal.returns
returns c =
    let pre = c.requires in
    let m = c.merge-put in
    let few = m.ensures.few in
    let back =
    copied_back _ _ _ m.new.spare m.new.runs _ m.result c.copy.result m.ensures.merged (omega arith) (omega arith)
    c.copy.ensures in
    record { merged = back.0; few = omega (arith, back.1, few) }
