-- `encode_ways::by_elements` meets its contract: pushes the ways through each code element.
use mathlib.Core.Path.{◌≡◌, refl}
use native.Mathlib.Omega.{arith}
use Rattle.encode_states.specs.Packed.{set_of, unpack}
use Rattle.encode_layer.specs.Layer.{bounds}
use Rattle.encode_ways.proofs.Reaching.{up_one, up_none}
use Rattle.encode_ways.proofs.by_elements.Goals as goal

pub loop-n-init : goal.loop-n-init
loop-n-init c = (
  refl,
  λ cs most t w h. up_none cs (bounds c.args.part.from c.args.part.cap c.args.part.buckets most) c.args.store.now
      c.args.count t (unpack c.args.entry.state) (set_of c.args.x),
)

pub loop-n-preserved : goal.loop-n-preserved
loop-n-preserved c = (
  omega arith,
  λ cs most t w h. up_one t (unpack c.args.entry.state) (set_of c.args.x) c.loop-n.n
      (c.loop-n.invariant.1 cs most t w h) (c.by_element-c.ensures cs most t w h),
)

pub shape_of-store : goal.shape_of-store
shape_of-store c = c.loop-n.invariant.0

pub returns : goal.returns
returns c = let e : c.loop-n.n ≡ 4 = omega arith in rw e at c.loop-n.invariant.1
