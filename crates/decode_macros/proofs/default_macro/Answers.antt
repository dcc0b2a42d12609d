-- `default_macro` meets its contract: a row of Table 7-18, or none. Assumes nothing.
use Prim.Native.Nat.{◌≤◌}
use native.Mathlib.Omega.{arith}
use Rattle.reading.specs.Macros.{builtin}
use Rattle.decode_macros.proofs.Laws.{room, built}
use Rattle.decode_macros.proofs.default_macro.Goals as goal

pub put_body-requires : goal.put_body-requires
unfolding builtin
put_body-requires c =
    let p : 0x60 ≤ c.args.code = omega arith in
    let q : c.args.code ≤ 0x6F = omega arith in
    room c.args.body.now c.args.code p q c.requires

pub returns-in-96-to-111 : goal.returns-in-96-to-111
unfolding builtin
returns-in-96-to-111 c =
    let p : 0x60 ≤ c.args.code = omega arith in
    let q : c.args.code ≤ 0x6F = omega arith in
    built c.args.code p q c.requires c.put_body.ensures
