-- `tables_reverse::is_no_symbol` meets its contract: three ranges. Assumes nothing.
use mathlib.Core.Bool.{false≢true}
use borrow.Author.Tests.{le-leb, lt-ltb, le-ltb}
use Rattle.tables_reverse.proofs.RowLaws.{no_symbol_in}
use Rattle.tables_reverse.proofs.is_no_symbol.Goals as goal

pub returns-in-0-to-127 : goal.returns-in-0-to-127
returns-in-0-to-127 c e = let x = c.args.c in no_symbol_in x (rw (lt-ltb x 0x80 c.in-0-to-127.if-c-lt128-own.true))

pub returns-in-12353-to-12543 : goal.returns-in-12353-to-12543
returns-in-12353-to-12543 c e =
    let x = c.args.c in
    no_symbol_in x (rw (le-ltb x 0x80 c.in-12353-to-12543.if-c-lt128-own.false, le-leb 0x3041 x c.in-12353-to-12543.if-c-lt12353-own.false, lt-ltb x 0x3100 c.in-12353-to-12543.if-c-lt12544-own.true))

pub returns-in-65280-to-65535 : goal.returns-in-65280-to-65535
returns-in-65280-to-65535 c e =
    let x = c.args.c in
    no_symbol_in x
    (rw (
      le-ltb x 0x80 c.in-65280-to-65535.if-c-lt128-own.false,
      le-leb 0x3041 x c.in-65280-to-65535.if-c-lt12353-own.false,
      le-ltb x 0x3100 c.in-65280-to-65535.if-c-lt12544-own.false,
      le-leb 0xFF00 x c.in-65280-to-65535.if-c-lt65280-own.false,
      lt-ltb x 0x10000 c.in-65280-to-65535.if-c-lt65536-own.true,
    ))

pub returns-in_default : goal.returns-in_default
returns-in_default c e = absurd (false≢true e)

pub returns-in_default-2 : goal.returns-in_default-2
returns-in_default-2 c e = absurd (false≢true e)

pub returns-in_default-3 : goal.returns-in_default-3
returns-in_default-3 c e = absurd (false≢true e)
