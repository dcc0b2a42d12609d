-- `report` meets its contract. Assumes nothing.
use native.Mathlib.Omega.{arith}
use Rattle.reading.specs.State.{issue}
use Rattle.decode_characters.proofs.Did.{did_writes}
use Rattle.decode_characters.proofs.report.Goals as goal

pub returns : goal.returns
unfolding issue
returns c = λ cells t. did_writes cells (omega arith) (omega arith) c.requires (c.issue.ensures t)
