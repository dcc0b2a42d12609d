-- `utf8::put_bytes` meets its contract: what was copied is the run of stores, as far as it fits. Assumes nothing.
use mathlib.Core.Path.{sym}
use native.Mathlib.Omega.{arith}
use Rattle.lent.proofs.Stores.{sets_out}
use Rattle.utf8.proofs.Places.{copied, copied_part}
use Rattle.utf8.proofs.put_bytes.Goals as goal

pub returns-then-room : goal.returns-then-room
returns-then-room g c = copied _ _ _ _ _ c.copy_from_slice.ensures.after (omega arith) (omega arith)

pub returns-else-room : goal.returns-else-room
returns-else-room g c = copied_part _ _ _ _ _ c.copy_from_slice-else-room.ensures.after (omega arith) (omega arith)

pub returns-else-at-text : goal.returns-else-at-text
returns-else-at-text g c = sym (sets_out c.args.bytes _ _ c.if-at-text.false)
