-- `encode_writing::put_code` meets its contract: one byte or two. Assumes nothing.
use Rattle.lent.proofs.Putting.{put_then}
use borrow.Author.Tests.{lt-ltb, le-ltb}
use Rattle.encode_candidates.specs.Packed.{code_of}
use Rattle.encode_writing.proofs.put_code.Goals as goal

pub returns-then-code-lt256 : goal.returns-then-code-lt256
unfolding code_of
returns-then-code-lt256 c = rw (lt-ltb _ _ c.if-code-lt256.true) c.put.ensures

pub returns : goal.returns
unfolding code_of
returns c =
    rw (le-ltb _ _ c.if-code-lt256.false) (put_then c.put-to.ensures c.put-2.ensures)
