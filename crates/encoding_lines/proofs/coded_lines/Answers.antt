-- `coded_lines` meets its contract: the store has its length. Assumes nothing.
use Prim.Native.Nat.{ℕ}
use mathlib.Core.Path.{sym}
use lib.ListN.{length-replicate}
use Rattle.encoding_lines.proofs.coded_lines.Goals as goal

pub slice_bounds-lines_in-end : goal.slice_bounds-lines_in-end
slice_bounds-lines_in-end c = sym (length-replicate {A = ℕ} 1048576 0)

pub lines_in-requires : goal.lines_in-requires
lines_in-requires c = length-replicate {A = ℕ} 1048576 0

pub shape_of-out : goal.shape_of-out
shape_of-out c = c.lines_in.auto.out

pub returns : goal.returns
returns c = c.lines_in.ensures
