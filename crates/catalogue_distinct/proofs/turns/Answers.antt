-- `turns` meets its contract: where the merge stands after each turn. Assumes nothing.
use mathlib.Core.Path.{◌≡◌}
use mathlib.Core.Logic.{inl, inr}
use native.Mathlib.Omega.{arith}
use Rattle.catalogue_distinct.proofs.Standing.{stands_start, heads_inside, stands_on}
use Rattle.catalogue_distinct.proofs.turns.Goals as goal

pub loop-left-init : goal.loop-left-init
loop-left-init c = stands_start _ _ _ _ _ _ c.requires

pub turn-step-requires : goal.turn-step-requires
turn-step-requires c =
    let pre = c.requires in
    heads_inside _ _ _ _ _ _ _ _ _ _ c.loop-left.invariant c.loop-left-test.true c.if-right-end.true pre.left_end (omega (arith, pre.right_end, c.loop-left.auto.runs))

pub loop-left-preserved : goal.loop-left-preserved
loop-left-preserved c =
    let pre = c.requires in
    stands_on _ _ _ _ _ _ _ _ _ _ c.loop-left.invariant c.loop-left-test.true c.if-right-end.true pre.left_end (omega (arith, pre.right_end, c.loop-left.auto.runs))
    _ _ _ _ _ (omega arith) c.turn-step.ensures

-- the right run is at its end, or the left one
pub returns-else-right-end : goal.returns-else-right-end
returns-else-right-end c =
    let s = c.loop-left.invariant in
    let e : c.loop-left.right ≡ c.args.end = omega (arith, s.right_end, c.if-right-end.false) in
    record { stands = s; over = inr e }

pub returns-after-loop-left : goal.returns-after-loop-left
returns-after-loop-left c =
    let s = c.loop-left.invariant in
    let e : c.loop-left.left ≡ c.args.a = omega (arith, s.left_end, c.loop-left-test.false) in
    record { stands = s; over = inl e }
