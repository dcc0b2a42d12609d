-- `is_private_use` meets its contract. Assumes nothing.
use native.Mathlib.Omega.{arith}
use borrow.Author.Tests.{le-leb}
use Rattle.private_use.specs.PrivateUse.{is_private_use}
use Rattle.private_use.proofs.Laws.{below, behind}
use Rattle.private_use.proofs.is_private_use.Goals as goal

pub returns-in-57344-to-63743 : goal.returns-in-57344-to-63743
unfolding is_private_use
returns-in-57344-to-63743 c =
    let x = c.args.c in
    rw (le-leb 0xE000 x (omega arith), le-leb x 0xF8FF (omega arith))

pub returns-in_default : goal.returns-in_default
returns-in_default c = let x = c.args.c in rw (below x (omega arith))

pub returns-in_default-2 : goal.returns-in_default-2
returns-in_default-2 c = let x = c.args.c in rw (behind x (omega arith))
