-- `behind` meets its contract. Assumes nothing.
use native.Mathlib.Omega.{arith}
use Rattle.utf8.proofs.Bytes.{length_utf8}
use Rattle.decode_runs.proofs.behind.Goals as goal

pub overflow_add-result-2 : goal.overflow_add-result-2
overflow_add-result-2 c = omega (arith, c.put.ensures.count, (length_utf8 c.args.c).most)
