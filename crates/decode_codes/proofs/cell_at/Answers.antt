-- `cell_at` meets its contract at plane 1, and at a set with no cells. Assumes nothing.
use native.Mathlib.Omega.{arith}
use borrow.Author.Tests.{le-leb, ne_eqb}
use Rattle.decode_codes.specs.Codes.{cell_at}
use Rattle.decode_codes.proofs.cell_at.Goals as goal

pub returns-in-12 : goal.returns-in-12
unfolding cell_at
returns-in-12 c = rw (c.in-12.is, le-leb c.args.row 84 (omega arith)) c.kanji-in-12.ensures

pub returns-in_default-2 : goal.returns-in_default-2
unfolding cell_at
returns-in_default-2 c = let z = c.args.set in rw (ne_eqb z 0 (omega arith), ne_eqb z 14 (omega arith), ne_eqb z 12 (omega arith))
