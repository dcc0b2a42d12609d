-- `encode::call::write` meets its contract: by question 8. Assumes nothing.
use mathlib.Core.Path.{ap, ◌∙◌}
use native.Mathlib.Omega.{arith}
use lib.Seq.{sets}
use Rattle.encode.proofs.Outcomes.{too_long, wrote}
use Rattle.encode.proofs.call.write.Goals as goal

pub returns-then-coding-length : goal.returns-then-coding-length
returns-then-coding-length c =
    λ k l. too_long c.args.target.length c.if-coding-length.true k l.length_is c.refuse.ensures

pub returns : goal.returns
returns c =
    λ k l. wrote k l.length_is l.gap_is (omega arith) (c.write_back.ensures l.searched ∙ ap (sets c.args.coding.now 0) l.out)
    c.clear.ensures c.clear-2.ensures
