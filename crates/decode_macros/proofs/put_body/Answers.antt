-- `put_body` meets its contract: the five parts follow one another. Assumes nothing.
use mathlib.Core.List.{[], ◌∷◌}
use native.Mathlib.Omega.{arith}
use Rattle.reading.specs.Macros.{builtin_of}
use Rattle.lent.proofs.Putting.{put_then}
use Rattle.decode_macros.proofs.Laws.{parts}
use Rattle.decode_macros.proofs.put_body.Goals as goal

pub put_designation-n-requires : goal.put_designation-n-requires
put_designation-n-requires c =
    let a = c.args in
    omega (arith, parts (a.g0 ∷ a.g1 ∷ a.g2 ∷ []))

pub put_designation-n-requires-2 : goal.put_designation-n-requires-2
put_designation-n-requires-2 c =
    let a = c.args in
    omega (arith, parts (a.g0 ∷ a.g1 ∷ a.g2 ∷ []))

pub put_designation-n-requires-3 : goal.put_designation-n-requires-3
put_designation-n-requires-3 c =
    let a = c.args in
    omega (arith, parts (a.g0 ∷ a.g1 ∷ a.g2 ∷ []))

pub put_designation-n-requires-4 : goal.put_designation-n-requires-4
put_designation-n-requires-4 c =
    let a = c.args in
    omega (arith, parts (a.g0 ∷ a.g1 ∷ a.g2 ∷ []))

pub put_bytes-requires : goal.put_bytes-requires
put_bytes-requires c =
    let a = c.args in
    omega (arith, parts (a.g0 ∷ a.g1 ∷ a.g2 ∷ []))

pub returns : goal.returns
unfolding builtin_of
returns c =
    put_then c.put_designation-n.ensures
    (put_then c.put_designation-n-2.ensures (put_then c.put_designation-n-3.ensures (put_then c.put_designation-n-4.ensures c.put_bytes.ensures)))
