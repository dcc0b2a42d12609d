-- `designation1` meets its contract. Assumes nothing.
use Prim.Native.Nat.{◌≤◌}
use native.Mathlib.Omega.{arith}
use mathlib.Core.Logic.{inl, inr}
use Rattle.decode_controls.proofs.Escapes.{one_set, one_g0, one_none}
use Rattle.decode_controls.proofs.designation1.Goals as goal

pub returns-in-36 : goal.returns-in-36
returns-in-36 c = one_g0 _ _ c.in-36.is c.designate.ensures

pub returns-in-40-to-43 : goal.returns-in-40-to-43
returns-in-40-to-43 c =
    let p : 0x28 ≤ c.args.a = omega (arith, c.in-40-to-43.if-a-lt40-own.false) in
    let q : c.args.a ≤ 0x2B = omega (arith, c.in-40-to-43.if-a-lt44-own.true) in
    one_set _ _ p q c.designate-in-40-to-43.ensures

pub returns-in_default : goal.returns-in_default
returns-in_default c = one_none _ _ c.in_default.in_default-own.rest.1 (inl c.in_default.if-a-lt40-own.true)

pub returns-in_default-2 : goal.returns-in_default-2
returns-in_default-2 c = one_none _ _ c.in_default.in_default-own.rest.1 (inr c.in_default.if-a-lt44-own.false)
