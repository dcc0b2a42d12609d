-- `tables_onebyte::run_at` meets its contract. Assumes nothing.
use borrow.Author.Tests.{le-leb, lt-leb}
use Rattle.tables_onebyte.specs.Promises.{run_at}
use Rattle.tables_onebyte.proofs.run_at.Goals as goal

pub returns-then-c-lt33 : goal.returns-then-c-lt33
unfolding run_at
returns-then-c-lt33 c = rw (lt-leb 0x21 c.args.c c.if-c-lt33.true)

pub returns-then-last-c : goal.returns-then-last-c
unfolding run_at
returns-then-last-c c =
    let a = c.args in
    rw (le-leb 0x21 a.c c.if-c-lt33.false, lt-leb a.c a.last c.if-last-c.true)

pub returns : goal.returns
unfolding run_at
returns c =
    let a = c.args in
    rw (le-leb 0x21 a.c c.if-c-lt33.false, le-leb a.c a.last c.if-last-c.false)
