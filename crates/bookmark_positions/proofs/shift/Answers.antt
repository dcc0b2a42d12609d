-- `shift` meets its contract. The invariant: k issues are moved. Assumes nothing.
use Prim.Native.Nat.{ℕ, ◌+◌, ◌*◌, ◌≤◌}
use mathlib.Core.Path.{◌≡◌, ap, ◌∙◌}
use native.Mathlib.Omega.{arith}
use lib.ListN.{length, get_or, set}
use Rattle.bookmark_positions.specs.Positions.{moved}
use Rattle.bookmark_positions.proofs.Moved.{moved_none, moved_read, moved_turn}
use Rattle.bookmark_positions.proofs.shift.Goals as goal

pub loop-k-init : goal.loop-k-init
loop-k-init c = moved_none c.args.by c.args.issues.now

pub overflow_add-issues-in-loop-k : goal.overflow_add-issues-in-loop-k
overflow_add-issues-in-loop-k c =
    let k = c.loop-k.k in
    let room : 5 * (k + 1) ≤ length c.args.issues.now = omega (arith, c.requires.n_bound.1, c.loop-k-test.true) in
    omega (arith, moved_read k c.args.by c.args.issues.now c.loop-k.invariant room, c.requires.by_index k c.loop-k-test.true)

pub loop-k-preserved : goal.loop-k-preserved
loop-k-preserved c =
    let k = c.loop-k.k in
    let room : 5 * (k + 1) ≤ length c.args.issues.now = omega (arith, c.requires.n_bound.1, c.loop-k-test.true) in
    let at = 5 * k + 4 in
    let swap : get_or c.loop-k.issues at 0 + c.args.by ≡ c.args.by + get_or c.loop-k.issues at 0 = omega arith in
    ap (set c.loop-k.issues at) swap ∙ moved_turn k c.args.by c.args.issues.now c.loop-k.invariant room

pub returns : goal.returns
returns c =
    let e : c.loop-k.k ≡ c.args.n = omega (arith, c.loop-k.auto.k-end, c.loop-k-test.false) in
    c.loop-k.invariant ∙ ap (λ (k : ℕ). moved k c.args.by c.args.issues.now) e
