-- `position` meets its contract: the entries before those that are left are counted. Assumes nothing.
use mathlib.Core.Path.{◌≡◌, sym, ◌∙◌}
use native.Mathlib.Nat.{zero-add}
use native.Mathlib.Omega.{arith}
use Rattle.catalogue_places.proofs.Looking.{before_turn, before_here, before_end}
use Rattle.catalogue_places.proofs.position.Goals as goal

pub loop-i-init : goal.loop-i-init
loop-i-init c = sym (zero-add _)

pub returns-then-number : goal.returns-then-number
returns-then-number c =
    let a = c.args in
    before_here a.number a.n a.places.now c.loop-i.i c.loop-i-test.true (omega (arith, c.number.ensures, c.if-number.true)) c.loop-i.invariant

pub loop-i-preserved : goal.loop-i-preserved
loop-i-preserved c =
    let a = c.args in
    before_turn a.number a.n a.places.now c.loop-i.i c.loop-i-test.true (omega (arith, c.number.ensures, c.if-number.false)) c.loop-i.invariant

pub returns : goal.returns
returns c =
    let e : c.args.n ≡ c.loop-i.i = omega (arith, c.loop-i.auto.i-end, c.loop-i-test.false) in
    e ∙ before_end c.args.number c.args.n c.args.places.now c.loop-i.i c.loop-i-test.false c.loop-i.invariant
