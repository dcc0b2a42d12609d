-- `addsym::row_place` meets its contract: each row by its own arm. Assumes nothing.
use mathlib.Core.Path.{sym, ap}
use native.Mathlib.Omega.{arith}
use borrow.Author.Tests.{ne_eqb}
use Rattle.addsym.specs.Symbols.{row_place}
use Rattle.addsym.proofs.row_place.Goals as goal

pub returns-in-85 : goal.returns-in-85
unfolding row_place
returns-in-85 c = (ap row_place (sym c.in-85.is), omega arith)

pub returns-in-86 : goal.returns-in-86
unfolding row_place
returns-in-86 c = (ap row_place (sym c.in-86.is), omega arith)

pub returns-in-90 : goal.returns-in-90
unfolding row_place
returns-in-90 c = (ap row_place (sym c.in-90.is), omega arith)

pub returns-in-91 : goal.returns-in-91
unfolding row_place
returns-in-91 c = (ap row_place (sym c.in-91.is), omega arith)

pub returns-in-92 : goal.returns-in-92
unfolding row_place
returns-in-92 c = (ap row_place (sym c.in-92.is), omega arith)

pub returns-in-93 : goal.returns-in-93
unfolding row_place
returns-in-93 c = (ap row_place (sym c.in-93.is), omega arith)

pub returns-in-94 : goal.returns-in-94
unfolding row_place
returns-in-94 c = (ap row_place (sym c.in-94.is), omega arith)

pub returns-in_default : goal.returns-in_default
unfolding row_place
returns-in_default c =
    simp (
      ne_eqb _ _ c.in_default.in_default-own.rest.0.0.0.0.0.0.1,
      ne_eqb _ _ c.in_default.in_default-own.rest.0.0.0.0.0.1,
      ne_eqb _ _ c.in_default.in_default-own.rest.0.0.0.0.1,
      ne_eqb _ _ c.in_default.in_default-own.rest.0.0.0.1,
      ne_eqb _ _ c.in_default.in_default-own.rest.0.0.1,
      ne_eqb _ _ c.in_default.in_default-own.rest.0.1,
      ne_eqb _ _ c.in_default.in_default-own.rest.1,
    )
