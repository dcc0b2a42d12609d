-- `encode_layer::enter` meets its contract: two numbers are changed, each in one half. Assumes nothing.
use Prim.Native.Nat.{◌+◌, ◌*◌}
use native.Mathlib.Omega.{arith}
use lib.ListN.{length-set}
use Rattle.encode_layer.proofs.Chains.{entered}
use Rattle.encode_layer.proofs.enter.Goals as goal

pub bounds-store-next : goal.bounds-store-next
bounds-store-next c = simp length-set (omega arith)

pub overflow_mul-store-2 : goal.overflow_mul-store-2
overflow_mul-store-2 c =
    let a = c.args in
    omega (arith, c.slice_known-2-1.given ((a.from + a.count) * 4 + 3))

pub overflow_add-store-2 : goal.overflow_add-store-2
overflow_add-store-2 c =
    let a = c.args in
    omega (arith, c.slice_known-2-1.given ((a.from + a.count) * 4 + 3))

pub bounds-store-next-2 : goal.bounds-store-next-2
bounds-store-next-2 c = simp length-set (omega arith)

pub returns : goal.returns
returns c =
    let a = c.args in
    entered a.store.now a.from a.count a.b a.first c.requires.0 c.requires.1 c.requires.2 c.requires.3
