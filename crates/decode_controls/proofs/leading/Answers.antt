-- `leading` meets its contract: what leads from `from` on ends where what leads from `j` on does. Assumes nothing.
use mathlib.Core.Path.{sym, ◌∙◌}
use native.Mathlib.Omega.{arith}
use Rattle.decode_controls.proofs.Cases.{leading_more, leading_stop, leading_none}
use Rattle.decode_controls.proofs.leading.Goals as goal

pub returns-then-not-leads : goal.returns-then-not-leads
returns-then-not-leads c =
    omega (arith, leading_stop c.args.high c.args.b.now c.loop-j.j c.loop-j-test.true (sym c.is_between-leads.ensures ∙ c.if-not-leads.true))

pub loop-j-preserved : goal.loop-j-preserved
loop-j-preserved c =
    omega (arith, leading_more c.args.high c.args.b.now c.loop-j.j c.loop-j-test.true (sym c.is_between-leads.ensures ∙ c.if-not-leads.false))

pub returns : goal.returns
returns c =
    omega (arith, leading_none c.args.high c.args.b.now c.loop-j.j (omega arith))
