-- `word` meets its contract: the bytes that are left are still to be written. Assumes nothing.
use mathlib.Core.Path.{◌≡◌, subst}
use Prim.Native.Nat.{ℕ, ◌+◌}
use native.Mathlib.Omega.{arith}
use lib.ListN.{length}
use Rattle.lent.specs.Put.{Put}
use Rattle.lent.proofs.Putting.{run_start, run_turn, run_end}
use Rattle.ascii.proofs.word.Goals as goal

pub loop-i-init : goal.loop-i-init
loop-i-init c = run_start _ _ _

pub loop-i-preserved : goal.loop-i-preserved
loop-i-preserved c = run_turn _ _ c.loop-i.invariant c.loop-i-test.true c.put.ensures

pub returns : goal.returns
returns c =
    let e : c.loop-i.i ≡ length c.args.w.now = omega arith in
    subst (λ (n : ℕ). Put c.args.out.now c.args.at c.args.w.now c.loop-i.out (c.args.at + n)) e (run_end _ _ c.loop-i.invariant c.loop-i-test.false)
