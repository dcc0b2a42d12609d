-- `encode_writing::put_invocation` meets its contract: the sequence of `Shift::bytes`. Assumes nothing.
use mathlib.Core.Path.{sym, ap, ◌∙◌}
use lib.ListN.{length}
use native.Mathlib.Omega.{arith}
use Rattle.lent.proofs.Putting.{put_none, put_as}
use Rattle.encode_writing.proofs.Laws.{invoked, shift_length}
use Rattle.encode_writing.proofs.put_invocation.Goals as goal

pub returns-then-v-lt2 : goal.returns-then-v-lt2
returns-then-v-lt2 c = put_as (invoked _ _ c.if-v-lt2.true) (put_none _ _)

pub put_sequence-requires : goal.put_sequence-requires
put_sequence-requires c = (omega arith, omega (arith, shift_length c.shift.result, ap length c.bytes.ensures))

pub returns : goal.returns
returns c = put_as (sym (c.bytes.ensures ∙ c.shift.ensures)) c.put_sequence.ensures
