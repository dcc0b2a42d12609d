-- `decode_checked`: the reading, and the answer.
use native.Mathlib.Omega.{arith}
use Rattle.questions.proofs.Refusals.{passed}
use Rattle.decode.proofs.Calls.{checked}
use Rattle.decode.proofs.call.decode_checked.Goals as goal

pub read-counts-requires : goal.read-counts-requires
read-counts-requires c =
    (passed _ _ _ _ _ c.requires).within

pub finish-requires : goal.finish-requires
finish-requires c =
    omega (arith, c.read-counts.ensures.few)

pub returns : goal.returns
returns c =
    let a = c.args in
    checked a.cells.now a.initial a.width a.input.now _ c.requires c.read-counts.ensures c.finish.ensures
