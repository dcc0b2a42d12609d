-- `encode_layer::bucket` meets its contract: one of so many. Assumes nothing.
use Prim.Native.Nat.{◌*◌, ◌%◌}
use mathlib.Core.Path.{refl}
use native.Mathlib.Omega.{arith}
use Rattle.encode_layer.specs.Layer.{bucket_of}
use Rattle.encode_layer.proofs.Chains.{spread_most, bucket_small}
use Rattle.encode_layer.proofs.bucket.Goals as goal

pub overflow_mul-result-2 : goal.overflow_mul-result-2
overflow_mul-result-2 c = omega (arith, spread_most (c.args.state * 81007 % 131072) c.args.buckets (omega arith))

pub returns : goal.returns
unfolding bucket_of
returns c = (refl, bucket_small (c.args.state * 81007 % 131072) c.args.buckets (omega arith) c.requires.0)
