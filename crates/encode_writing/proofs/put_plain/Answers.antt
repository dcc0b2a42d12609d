-- `encode_writing::put_plain` meets its contract: the two parts, one behind the other. Assumes nothing.
use Prim.Native.Nat.{◌/◌, ◌%◌}
use native.Mathlib.Omega.{arith}
use Rattle.encode_states.specs.Written.{written_by}
use Rattle.lent.proofs.Putting.{put_then}
use Rattle.encode_writing.proofs.Laws.{size_length}
use Rattle.encode_writing.proofs.put_plain.Goals as goal

pub put-requires : goal.put-requires
put-requires c =
    omega (arith, c.put_size-to.ensures.next, size_length (c.args.how / 16 % 4))

pub returns : goal.returns
unfolding written_by
returns c =
    λ size. put_then c.put_size-to.ensures c.put.ensures
