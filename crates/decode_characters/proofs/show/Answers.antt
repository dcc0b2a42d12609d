-- `show` meets its contract. Assumes nothing.
use native.Mathlib.Omega.{arith}
use Rattle.decode_characters.proofs.Did.{did_writes}
use Rattle.decode_characters.proofs.show.Goals as goal

pub returns : goal.returns
returns c = λ cells i. did_writes cells (omega arith) (omega arith) c.requires.may_take (c.emit.ensures i)
