-- `tables_onebyte::katakana` meets its contract. Assumes nothing.
use mathlib.Core.Path.{sym, ◌∙◌}
use native.Mathlib.Omega.{arith}
use Rattle.tables_onebyte.specs.Promises.{kana_at, katakana_set}
use Rattle.tables_onebyte.specs.declared.OneByteTable.TheVariants.{Katakana}
use Rattle.tables_onebyte.proofs.OneByteLaws.{agree}
use Rattle.tables_onebyte.proofs.Rules.{katakana_rule}
use Rattle.tables_onebyte.proofs.katakana.Goals as goal

pub returns : goal.returns
returns c =
    let x = c.args.c in
    rw (c.kana_at.ensures ∙ sym (agree Katakana (kana_at katakana_set) katakana_rule x (omega arith))) at c.one_byte_of.ensures
