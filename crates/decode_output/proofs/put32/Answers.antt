-- `decode_output::put32` meets its contract: past the end nothing is written, as `set` does. Assumes nothing.
use mathlib.Core.Path.{sym}
use lib.Seq.{set_out}
use Rattle.decode_output.proofs.put32.Goals as goal

pub returns-else-n-d : goal.returns-else-n-d
returns-else-n-d c = sym (set_out _ _ _ c.if-n-d.false)
