-- `tables_onebyte::half` meets its contract. Assumes nothing.
use Rattle.tables_onebyte.specs.Reverse.{code_value}
use Rattle.tables_onebyte.specs.Promises.{alphanumeric_at}
use Rattle.tables_onebyte.specs.declared.OneByteTable.TheVariants.{Fullwidth}
use Rattle.tables_onebyte.proofs.Rules.{fullwidth_rule}
use Rattle.tables_onebyte.proofs.CodeLaws.{inverse}
use Rattle.tables_onebyte.proofs.half.Goals as goal

pub returns : goal.returns
returns c =
    inverse Fullwidth (alphanumeric_at 0xFF01 0xFFE5) fullwidth_rule c.args.c (code_value c.alphanumeric_reverse.result) c.alphanumeric_reverse.ensures
