-- `tables_onebyte::fullwidth` meets its contract. Assumes nothing.
use mathlib.Core.Path.{sym, ap}
use Prim.Native.Nat.{◌≤◌}
use native.Mathlib.Omega.{arith}
use borrow.Author.Tests.{le-leb, lt-leb, ne_eqb}
use Rattle.tables_onebyte.specs.OneByte.{fullwidth_of}
use Rattle.tables_onebyte.proofs.fullwidth.Goals as goal

pub returns-in-165 : goal.returns-in-165
unfolding fullwidth_of
returns-in-165 c = ap fullwidth_of (sym c.in-165.is)

pub returns-in-33-to-126 : goal.returns-in-33-to-126
unfolding fullwidth_of
returns-in-33-to-126 c =
    let h : c.args.c ≤ 0x7E = omega arith in
    rw (le-leb 0x21 c.args.c c.in-33-to-126.if-c-lt33-own.false, le-leb c.args.c 0x7E h)

pub returns-in_default : goal.returns-in_default
unfolding fullwidth_of
returns-in_default c = rw (lt-leb 0x21 c.args.c c.in_default.if-c-lt33-own.true, ne_eqb c.args.c 0xA5 c.in_default.in_default-own.rest.1)

pub returns-in_default-2 : goal.returns-in_default-2
unfolding fullwidth_of
returns-in_default-2 c =
    let x = c.args.c in
    rw (le-leb 0x21 x c.in_default.if-c-lt33-own.false, lt-leb x 0x7E c.in_default.if-c-lt127-own.false, ne_eqb x 0xA5 c.in_default.in_default-own.rest.1)
