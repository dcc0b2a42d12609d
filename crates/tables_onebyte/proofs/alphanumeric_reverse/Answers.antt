-- `tables_onebyte::alphanumeric_reverse` meets its contract: a run, but for 5C. Assumes nothing.
use native.Mathlib.Omega.{arith}
use Rattle.tables_onebyte.specs.Reverse.{code_value}
use Rattle.tables_onebyte.specs.Promises.{alphanumeric_at}
use Rattle.tables_onebyte.proofs.CodeLaws.{key, no_solidus, alphanumeric_run}
use Rattle.tables_onebyte.proofs.alphanumeric_reverse.Goals as goal

pub returns-then-c-yen : goal.returns-then-c-yen
unfolding alphanumeric_at
returns-then-c-yen c =
    key (alphanumeric_at c.args.first c.args.yen) c.args.c 0x5C (omega arith) (omega arith) c.requires.le_yen c.if-c-yen.true

pub returns-then-c-first : goal.returns-then-c-first
returns-then-c-first c =
    let a = c.args in
    no_solidus a.first a.yen a.c c.if-c-yen.false c.if-c-first.true

pub returns : goal.returns
returns c =
    let a = c.args in
    alphanumeric_run a.first a.yen a.c c.if-c-yen.false c.if-c-first.false (code_value c.run_reverse.result) c.run_reverse.ensures
