-- `second` meets its contract. Assumes nothing.
use native.Mathlib.Omega.{arith}
use Rattle.decode_controls.proofs.Effects.{reads_nothing}
use Rattle.decode_controls.proofs.Cases.{second_some, second_none}
use Rattle.decode_controls.proofs.second.Goals as goal

pub returns-then-i-b : goal.returns-then-i-b
returns-then-i-b c =
    let a = c.args in
    let more = c.if-i-b.true in
    reads_nothing 3 (omega arith) (omega arith) (λ at s. second_some a.b.now a.i at s more)

pub returns : goal.returns
returns c =
    let a = c.args in
    c.cut.ensures _ (λ place at s. second_none a.b.now a.i at s c.requires c.if-i-b.false)
