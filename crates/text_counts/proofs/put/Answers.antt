-- `put` meets its contract: a store past the end changes nothing. Assumes nothing.
use mathlib.Core.Path.{sym}
use lib.Seq.{set_out}
use Rattle.text_counts.proofs.put.Goals as goal

pub returns-else-n-counts : goal.returns-else-n-counts
returns-else-n-counts c = sym (set_out _ _ _ c.if-n-counts.false)
