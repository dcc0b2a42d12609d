-- `utf8::put` meets its contract: a row of Table 3-6 for each answer, its bytes as the callee wrote them. Assumes nothing.
use Rattle.utf8.proofs.Bytes.{row1, row2, row3, row4}
use Rattle.utf8.proofs.put.Goals as goal

pub returns-then-c-lt128 : goal.returns-then-c-lt128
returns-then-c-lt128 c =
    let h = row1 c.args.c c.if-c-lt128.true in
    record { bytes = rw h c.put_bytes.ensures; count = rw h }

pub returns-then-c-lt2048 : goal.returns-then-c-lt2048
returns-then-c-lt2048 c =
    let h = row2 c.args.c c.if-c-lt128.false c.if-c-lt2048.true in
    record { bytes = rw h c.put_bytes-then-c-lt2048.ensures; count = rw h }

pub returns-then-c-lt65536 : goal.returns-then-c-lt65536
returns-then-c-lt65536 c =
    let h = row3 c.args.c c.if-c-lt2048.false c.if-c-lt65536.true in
    record { bytes = rw h c.put_bytes-then-c-lt65536.ensures; count = rw h }

pub returns : goal.returns
returns c =
    let h = row4 c.args.c c.if-c-lt65536.false in
    record { bytes = rw h c.put_bytes-2.ensures; count = rw h }
