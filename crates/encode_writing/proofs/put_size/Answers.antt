-- `encode_writing::put_size` meets its contract: a byte where a size control is asked for. Assumes nothing.
use Rattle.encode_states.specs.Written.{size_control}
use Rattle.lent.proofs.Putting.{put_none, put_as}
use Rattle.encode_writing.proofs.Laws.{other_size}
use Rattle.encode_writing.proofs.put_size.Goals as goal

pub returns-in-0 : goal.returns-in-0
unfolding size_control
returns-in-0 c = rw c.in-0.is (put_none _ _)

pub returns-in-1 : goal.returns-in-1
unfolding size_control
returns-in-1 c = rw c.in-1.is c.put.ensures

pub returns-in_default : goal.returns-in_default
returns-in_default c =
    put_as (other_size _ c.in_default.in_default-own.rest.0.1 c.in_default.in_default-own.rest.1) c.put-in_default.ensures
