-- `repeat` meets its contract. Assumes nothing.
use Prim.Native.Nat.{ℕ}
use mathlib.Core.Path.{ap}
use native.Mathlib.Omega.{arith}
use Rattle.reading.specs.State.{State, took}
use Rattle.reading.specs.Controls.{repeat_by}
use Rattle.decode_reports.proofs.Moving.{moved_as, moved_wait, moved_line, repeat_some}
use Rattle.decode_reports.proofs.repeat.Goals as goal

pub returns-then-n-eq0 : goal.returns-then-n-eq0
returns-then-n-eq0 c =
    let a = c.args in
    let zero = c.if-n-eq0.true in
    let issued = c.issue-core.ensures in
    λ t. moved_as (λ σ. ap (λ (n : ℕ). took a.used (repeat_by n a.at σ)) zero) (moved_line a.used c.requires.may_take (issued t))

pub returns : goal.returns
returns c =
    let a = c.args in
    let six = c.requires.n_bound in
    λ t.
    moved_as (λ σ. ap (λ (s : State). took a.used s) (repeat_some a.n a.at σ c.if-n-eq0.false))
    (moved_wait a.s t a.issues.now c.requires.may_take a.used a.n (omega arith))
