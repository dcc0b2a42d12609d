-- `entry_refusal` meets its contract. Assumes nothing.
use borrow.Author.Tests.{le-leb, lt-leb}
use Rattle.catalogue.proofs.entry_refusal.Goals as goal

pub returns-then-len-gt-KEY-clause-number : goal.returns-then-len-gt-KEY-clause-number
returns-then-len-gt-KEY-clause-number c =
    rw (c.if-present.false, lt-leb c.args.len 255 c.if-len-gt-KEY.true)

pub returns-then-n-ge-ENTRIES-clause-number : goal.returns-then-n-ge-ENTRIES-clause-number
returns-then-n-ge-ENTRIES-clause-number c =
    rw (c.if-present.false, le-leb c.args.len 255 c.if-len-gt-KEY.false, le-leb 1024 c.args.n c.if-n-ge-ENTRIES.true)

pub returns-clause-number : goal.returns-clause-number
returns-clause-number c =
    rw (c.if-present.false, le-leb c.args.len 255 c.if-len-gt-KEY.false, lt-leb 1024 c.args.n c.if-n-ge-ENTRIES.false)
