-- `common` meets its contract: the records are alike up to the byte that the loop has come to. Assumes nothing.
use mathlib.Core.Path.{sym, ◌∙◌}
use Rattle.catalogue_distinct.proofs.Bytes.{record_long, byte_at, alike_on, common_there, common_end}
use Rattle.catalogue_distinct.proofs.common.Goals as goal

pub loop-i-init : goal.loop-i-init
loop-i-init c = c.skip-i.ensures

pub loop-i-preserved : goal.loop-i-preserved
loop-i-preserved c =
    let a = c.args in
    let i = c.loop-i.i in
    let inside = c.loop-i-test.true in
    alike_on _ _ _ _ (record_long a.places.now a.p c.requires.0) (record_long a.places.now a.q c.requires.1) inside
    (byte_at a.places.now a.p i inside ∙ (c.if-places-a.true ∙ sym (byte_at a.places.now a.q i inside))) c.loop-i.invariant

pub returns-else-places-a : goal.returns-else-places-a
returns-else-places-a c =
    let a = c.args in
    let i = c.loop-i.i in
    let inside = c.loop-i-test.true in
    common_there _ _ _ _ c.loop-i.invariant λ e. c.if-places-a.false (sym (byte_at a.places.now a.p i inside) ∙ (e ∙ byte_at a.places.now a.q i inside))

pub returns-after-loop-i : goal.returns-after-loop-i
returns-after-loop-i c = common_end _ _ _ _ c.loop-i.invariant c.loop-i-test.false
