-- `utf8::is_trailing` meets its contract: the two tests are those of the definition. Assumes nothing.
use borrow.Author.Tests.{lt-leb, le-leb}
use Rattle.utf8.specs.Utf8.{is_trailing}
use Rattle.utf8.proofs.is_trailing.Goals as goal

pub returns-then-b-ge128 : goal.returns-then-b-ge128
unfolding is_trailing
returns-then-b-ge128 c = rw (le-leb 0x80 c.args.b c.if-b-ge128.true)

pub returns-else-b-ge128 : goal.returns-else-b-ge128
unfolding is_trailing
returns-else-b-ge128 c = rw (lt-leb 0x80 c.args.b c.if-b-ge128.false)
