-- `tables::in_gap` meets its contract. Assumes nothing.
use native.Mathlib.Omega.{arith}
use borrow.Author.Tests.{eq-eqb, ne_eqb, le-leb, lt-leb}
use Rattle.tables.proofs.in_gap.Goals as goal

pub returns-then-row-ne90 : goal.returns-then-row-ne90
returns-then-row-ne90 c = rw (ne_eqb c.args.row 90 c.if-row-ne90.true)

pub returns-in-45-to-63 : goal.returns-in-45-to-63
returns-in-45-to-63 c =
    let a = c.args in
    rw (eq-eqb a.row 90 c.if-row-ne90.false, le-leb 45 a.cell (omega arith), le-leb a.cell 63 (omega arith))

pub returns-in-66-to-84 : goal.returns-in-66-to-84
returns-in-66-to-84 c =
    let a = c.args in
    rw (
      eq-eqb a.row 90 c.if-row-ne90.false,
      le-leb 45 a.cell (omega arith),
      lt-leb a.cell 63 (omega arith),
      le-leb 66 a.cell (omega arith),
      le-leb a.cell 84 (omega arith),
    )

pub returns-in_default : goal.returns-in_default
returns-in_default c =
    let a = c.args in
    rw (eq-eqb a.row 90 c.if-row-ne90.false, lt-leb 45 a.cell (omega arith), lt-leb 66 a.cell (omega arith))

pub returns-in_default-2 : goal.returns-in_default-2
returns-in_default-2 c =
    let a = c.args in
    rw (
      eq-eqb a.row 90 c.if-row-ne90.false,
      le-leb 45 a.cell (omega arith),
      lt-leb a.cell 63 (omega arith),
      lt-leb 66 a.cell (omega arith),
    )

pub returns-in_default-3 : goal.returns-in_default-3
returns-in_default-3 c =
    let a = c.args in
    rw (
      eq-eqb a.row 90 c.if-row-ne90.false,
      le-leb 45 a.cell (omega arith),
      lt-leb a.cell 63 (omega arith),
      le-leb 66 a.cell (omega arith),
      lt-leb a.cell 84 (omega arith),
    )
