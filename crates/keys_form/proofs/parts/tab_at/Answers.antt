-- `tab_at` meets its contract: no TAB stands before the place. Assumes nothing.
use mathlib.Core.Path.{◌≡◌, sym, ◌∙◌}
use native.Mathlib.Nat.{zero-add}
use native.Mathlib.Omega.{arith}
use lib.ListN.{length}
use Rattle.keys_form.proofs.Reading.{tab_here, tab_past, tab_none}
use Rattle.keys_form.proofs.parts.tab_at.Goals as goal

pub loop-i-init : goal.loop-i-init
loop-i-init c = sym (zero-add _)

pub returns-then-x-eq9 : goal.returns-then-x-eq9
returns-then-x-eq9 c = tab_here _ _ c.loop-i-test.true c.loop-i.invariant c.if-x-eq9.true

pub loop-i-preserved : goal.loop-i-preserved
loop-i-preserved c = tab_past _ _ c.loop-i-test.true c.loop-i.invariant c.if-x-eq9.false

pub returns : goal.returns
returns c =
    let e : length c.args.line.now ≡ c.loop-i.i = omega arith in
    e ∙ tab_none _ _ c.loop-i-test.false c.loop-i.invariant
