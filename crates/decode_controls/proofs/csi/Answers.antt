-- `csi` meets its contract. Assumes nothing.
use Prim.Native.Nat.{ℕ, ◌+◌, ◌-◌}
use mathlib.Core.Path.{◌≡◌, ap}
use mathlib.Core.Bool.{true}
use native.Mathlib.Omega.{arith}
use lib.ListN.{drop}
use Rattle.reading.specs.Controls.{sequence_from, csi}
use Rattle.decode_controls.proofs.Effects.{reads_as}
use Rattle.decode_controls.proofs.csi.Goals as goal

pub returns : goal.returns
unfolding csi
returns c =
    let a = c.args in
    let n : 1 ≡ a.i + 1 - a.i = omega arith in
    reads_as (λ place at s. ap (λ (k : ℕ). sequence_from true 0x9B k (drop (a.i + 1) a.b.now) at s) n) c.sequence.ensures
