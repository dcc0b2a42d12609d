-- `skip` meets its contract: the records are alike up to the part that the loop has come to. Assumes nothing.
use mathlib.Core.Path.{sym, ◌∙◌}
use native.Mathlib.Omega.{arith}
use Rattle.catalogue_distinct.proofs.Bytes.{alike_start, alike_part}
use Rattle.catalogue_distinct.proofs.skip.Goals as goal

pub loop-i-init : goal.loop-i-init
loop-i-init c = alike_start _ _ _ c.requires.2

pub loop-i-preserved : goal.loop-i-preserved
loop-i-preserved c =
    let a = c.args in
    alike_part a.places.now a.p a.q a.from c.loop-i.i (omega arith) c.loop-i.invariant (sym c.if-alike.true ∙ c.alike.ensures)
