-- `utf8::is_second` meets its contract: the two tests are those of the definition. Assumes nothing.
use borrow.Author.Tests.{lt-leb, le-leb}
use Rattle.utf8.specs.Utf8.{is_second}
use Rattle.utf8.proofs.is_second.Goals as goal

pub returns-then-low-b : goal.returns-then-low-b
unfolding is_second
returns-then-low-b c =
    let r = c.low in
    rw (← r.ensures, le-leb r.result c.args.b c.if-low-b.true, ← c.high.ensures)

pub returns-else-low-b : goal.returns-else-low-b
unfolding is_second
returns-else-low-b c =
    let r = c.low in
    rw (← r.ensures, lt-leb r.result c.args.b c.if-low-b.false)
