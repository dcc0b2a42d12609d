-- `put_bytes` meets its contract: the bytes stand between what was before and behind them. Assumes nothing.
use mathlib.Core.Path.{refl}
use native.Mathlib.Omega.{arith}
use Rattle.decode_macros.proofs.Laws.{middle}
use Rattle.decode_macros.proofs.put_bytes.Goals as goal

pub returns : goal.returns
returns c =
    let a = c.args in
    record { written = middle a.body.now a.at _ a.s.now (omega arith) c.requires c.copy_from_slice.ensures.after; next = refl }
