-- `copy` meets its contract: a number a turn. Assumes nothing.
use Prim.Native.Nat.{◌+◌, ◌-◌}
use mathlib.Core.Path.{◌≡◌, refl, sym, ap, ◌∙◌}
use native.Mathlib.Omega.{arith}
use lib.ListN.{set, take, length-set}
use lib.Seq.{slice, length-slice, get_or-take, get_or-drop}
use Rattle.lent.proofs.Putting.{run_start, run_turn, run_end}
use Rattle.catalogue_distinct.proofs.copy.Goals as goal

pub loop-i-init : goal.loop-i-init
loop-i-init c =
    let a = c.args in
    (refl, run_start a.to.now a.at (slice a.lo a.hi a.from.now))

pub loop-i-preserved : goal.loop-i-preserved
loop-i-preserved c =
    let a = c.args in
    let s = c.loop-i in
    let inside = c.loop-i-test.true in
    let e = get_or-drop a.lo (take a.hi a.from.now) s.i 0 ∙ get_or-take a.hi a.from.now (a.lo + s.i) 0 (omega arith) in (
      length-set s.to (a.at + s.i) _ ∙ s.invariant.0,
      run_turn a.at s.i s.invariant.1 (omega (arith, length-slice a.lo a.hi a.from.now c.requires.1)) (ap (set s.to (a.at + s.i)) (sym e)),
    )

pub returns : goal.returns
returns c =
    let a = c.args in
    let all : a.hi - a.lo ≡ c.loop-i.i = omega arith in
    rw all (run_end a.at c.loop-i.i c.loop-i.invariant.1 (omega (arith, length-slice a.lo a.hi a.from.now c.requires.1)))
