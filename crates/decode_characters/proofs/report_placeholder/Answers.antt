-- `report_placeholder` meets its contract. Assumes nothing.
use native.Mathlib.Omega.{arith}
use Rattle.reading.specs.State.{placeholder}
use Rattle.private_use.proofs.Laws.{behind}
use Rattle.decode_output.proofs.Callers.{room_left, wrote_then}
use Rattle.decode_characters.proofs.Did.{did_writes}
use Rattle.decode_characters.proofs.report_placeholder.Goals as goal

pub emit-requires : goal.emit-requires
emit-requires c = record { room = room_left c.requires.room (c.issue-out.ensures c.args.text.now).grew; c_value = behind 0xFFFD (omega arith) }

pub returns : goal.returns
unfolding placeholder
returns c = λ cells. did_writes cells (omega arith) (omega arith) c.requires (wrote_then (c.issue-out.ensures c.args.text.now) (c.emit.ensures _))
