-- `utf8::first_fault` meets its contract: from `at` on the first fault is that of the whole text; each turn takes one sequence of one byte at least. Assumes nothing.
use mathlib.Core.Path.{refl, sym, ◌∙◌}
use native.Mathlib.Omega.{arith}
use lib.ListN.{drop, length-drop, drop_of_length-le}
use Rattle.utf8.specs.Utf8.{fault_from, first_fault}
use Rattle.utf8.proofs.Reading.{not_scalar}
use Rattle.utf8.proofs.Texts.{Turn, turn, fault_here}
use Rattle.utf8.proofs.first_fault.Goals as goal

-- the sequence that was read
read : (c : goal.In-Scalar) → Turn c.args.text.now c.loop-n.at c.in-Scalar.n
read c = turn _ _ _ _ c.loop-n.invariant.0 (sym c.read.ensures ∙ c.in-Scalar.is)

pub loop-n-init : goal.loop-n-init
unfolding first_fault
loop-n-init c = (omega arith, refl)

pub overflow_add-at : goal.overflow_add-at
overflow_add-at c = omega (arith, (read c).within, c.well_formed)

pub loop-n-smaller : goal.loop-n-smaller
loop-n-smaller c = omega (arith, (read c).least, (read c).within)

pub loop-n-preserved : goal.loop-n-preserved
loop-n-preserved c = ((read c).within, c.loop-n.invariant.1 ∙ (read c).fault)

pub returns-then-at-text : goal.returns-then-at-text
returns-then-at-text c =
    let t = c.args.text.now in
    let at = c.loop-n.at in
    sym (c.loop-n.invariant.1 ∙ fault_here (drop at t) at (not_scalar _ _ c.read.ensures c.in_default.not-Scalar (omega (arith, length-drop at t))))

pub returns-else-at-text : goal.returns-else-at-text
unfolding fault_from
returns-else-at-text c = sym (c.loop-n.invariant.1 ∙ rw (drop_of_length-le c.args.text.now c.if-at-text.false))
