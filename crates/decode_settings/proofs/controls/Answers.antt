-- `controls` meets its contract. The invariant: the controls so far. Assumes nothing.
use mathlib.Core.Path.{refl}
use native.Mathlib.Omega.{arith}
use Rattle.decode_settings.proofs.Turning.{nowhere, controls_none, controls_more, controls_left, taken, left_out}
use Rattle.decode_settings.proofs.controls.Goals as goal

pub loop-i-init : goal.loop-i-init
loop-i-init c = controls_none c.requires.0 c.requires.2

pub returns-in-None : goal.returns-in-None
returns-in-None c =
    controls_left c.loop-i.invariant (λ g left R place at. left_out c.in-None.is (c.control.ensures g left R place at)) refl

pub overflow_add-i : goal.overflow_add-i
overflow_add-i c =
    let w = c.control.ensures nowhere 0 (λ b base origin s. s) 0 0 in omega (arith, (taken c.in-Some.used c.in-Some.is w).within)

pub loop-i-smaller : goal.loop-i-smaller
loop-i-smaller c =
    let w = c.control.ensures nowhere 0 (λ b base origin s. s) 0 0 in omega (arith, w.some c.in-Some.used c.in-Some.is)

pub loop-i-preserved : goal.loop-i-preserved
loop-i-preserved c =
    let w = c.control.ensures nowhere 0 (λ b base origin s. s) 0 0 in
    let some = w.some c.in-Some.used c.in-Some.is in
    controls_more c.loop-i.invariant (λ g left R place at. taken c.in-Some.used c.in-Some.is (c.control.ensures g left R place at))
    (λ e. omega (arith, some)) c.loop-i-test.true (omega (arith, c.loop-i-test.true, c.requires.1))

pub returns : goal.returns
returns c = c.loop-i.invariant
