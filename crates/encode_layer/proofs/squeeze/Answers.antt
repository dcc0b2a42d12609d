-- `encode_layer::squeeze` meets its contract: a node a turn. Assumes nothing.
use mathlib.Core.Path.{ap}
use native.Mathlib.Omega.{arith}
use lib.ListN.{set}
use Rattle.encode_layer.proofs.Squeezing.{going_start, going_on, going_end}
use Rattle.encode_layer.proofs.squeeze.Goals as goal

pub loop-i-init : goal.loop-i-init
loop-i-init c = going_start _ _ _

pub loop-i-preserved : goal.loop-i-preserved
loop-i-preserved c =
    going_on _ _ _ _ _ _ c.requires.0 (omega arith) (ap (set c.loop-i.store c.loop-i.i) c.older.ensures) c.loop-i.invariant

pub shape_of-store : goal.shape_of-store
shape_of-store c = c.loop-i.invariant.same

pub returns : goal.returns
returns c = going_end _ _ _ _ _ c.loop-i-test.false c.loop-i.invariant
