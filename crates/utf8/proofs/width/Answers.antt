-- `utf8::width` meets its contract: a row of Table 3-6 for each answer. Assumes nothing.
use Rattle.utf8.proofs.Bytes.{row1, row2, row3, row4}
use Rattle.utf8.proofs.width.Goals as goal

pub returns-then-c-lt128 : goal.returns-then-c-lt128
returns-then-c-lt128 c = rw (row1 c.args.c c.if-c-lt128.true)

pub returns-then-c-lt2048 : goal.returns-then-c-lt2048
returns-then-c-lt2048 c = rw (row2 c.args.c c.if-c-lt128.false c.if-c-lt2048.true)

pub returns-then-c-lt65536 : goal.returns-then-c-lt65536
returns-then-c-lt65536 c = rw (row3 c.args.c c.if-c-lt2048.false c.if-c-lt65536.true)

pub returns : goal.returns
returns c = rw (row4 c.args.c c.if-c-lt65536.false)
