-- `decode_output::shift_up` meets its contract. Assumes nothing.
use mathlib.Core.Path.{sym}
use lib.ListN.{take}
use Rattle.lent.proofs.Stores.{sets_out}
use Rattle.decode_output.proofs.Sets.{copied_up}
use Rattle.decode_output.proofs.shift_up.Goals as goal

pub returns-then-d-part : goal.returns-then-d-part
returns-then-d-part c = copied_up c.args.part.now c.args.m c.args.d c.if-d-part.true c.min-n.ensures c.copy_within.ensures.after

pub returns-else-d-part : goal.returns-else-d-part
returns-else-d-part c = sym (sets_out (take c.args.m c.args.part.now) c.args.part.now c.args.d c.if-d-part.false)
