-- `tables_onebyte::alphanumeric_at` meets its contract: a run, but for YEN SIGN at 5C. Assumes nothing.
use mathlib.Core.Path.{sym, ap, ◌∙◌}
use native.Mathlib.Omega.{arith}
use Rattle.tables_onebyte.specs.OneByte.{one_byte_at}
use Rattle.tables_onebyte.specs.Promises.{alphanumeric_at}
use Rattle.tables_onebyte.specs.declared.OneByteTable.TheVariants.{Alphanumeric}
use Rattle.tables_onebyte.proofs.OneByteLaws.{agree}
use Rattle.tables_onebyte.proofs.Rules.{alphanumeric_rule}
use Rattle.tables_onebyte.proofs.CodeLaws.{off_yen}
use Rattle.tables_onebyte.proofs.alphanumeric_at.Goals as goal

pub returns-in-92 : goal.returns-in-92
unfolding one_byte_at
returns-in-92 c = ap (one_byte_at Alphanumeric) (sym c.in-92.is)

pub returns-in_default : goal.returns-in_default
returns-in_default c =
    let x = c.args.c in
    c.run_at.ensures
    ∙ sym (agree Alphanumeric (alphanumeric_at 0x21 0xA5) alphanumeric_rule x (omega arith) ∙ off_yen 0x21 0xA5 x c.in_default.in_default-own.rest.1)
