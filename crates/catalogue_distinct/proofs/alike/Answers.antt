-- `alike` meets its contract: what was looked at is the same so far. Assumes nothing.
use Prim.Native.Nat.{ℕ, ◌+◌}
use mathlib.Core.Path.{◌≡◌, sym, ap, ◌∙◌}
use mathlib.Core.Bool.{Bool, ◌&&◌}
use native.Mathlib.Omega.{arith}
use lib.Dec.{eqb}
use lib.ListN.{take, drop, get_or}
use Rattle.catalogue_distinct.specs.Distinct.{same}
use Rattle.catalogue_distinct.proofs.Bytes.{same_next}
use Rattle.catalogue_distinct.proofs.alike.Goals as goal

pub loop-i-preserved : goal.loop-i-preserved
loop-i-preserved c =
    let a = c.args in
    let i = c.loop-i.i in
    ap (λ (t : Bool). t && eqb (get_or a.places.now (a.a + i) 0) (get_or a.places.now (a.b + i) 0)) c.loop-i.invariant
    ∙ sym (same_next a.places.now a.a a.b i c.requires.0 c.requires.1 c.loop-i-test.true)

pub returns : goal.returns
returns c =
    let a = c.args in
    let e : c.loop-i.i ≡ 32 = omega arith in
    c.loop-i.invariant ∙ ap (λ (n : ℕ). same (take n (drop a.a a.places.now)) (take n (drop a.b a.places.now))) e
