-- `tables_onebyte::hiragana` meets its contract. Assumes nothing.
use mathlib.Core.Path.{sym, ◌∙◌}
use native.Mathlib.Omega.{arith}
use Rattle.tables_onebyte.specs.Promises.{kana_at, hiragana_set}
use Rattle.tables_onebyte.specs.declared.OneByteTable.TheVariants.{Hiragana}
use Rattle.tables_onebyte.proofs.OneByteLaws.{agree}
use Rattle.tables_onebyte.proofs.Rules.{hiragana_rule}
use Rattle.tables_onebyte.proofs.hiragana.Goals as goal

pub returns : goal.returns
returns c =
    let x = c.args.c in
    rw (c.kana_at.ensures ∙ sym (agree Hiragana (kana_at hiragana_set) hiragana_rule x (omega arith))) at c.one_byte_of.ensures
