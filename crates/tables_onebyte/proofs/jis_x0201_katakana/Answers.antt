-- `tables_onebyte::jis_x0201_katakana` meets its contract: a run. Assumes nothing.
use mathlib.Core.Path.{sym, ◌∙◌}
use native.Mathlib.Omega.{arith}
use Rattle.tables_onebyte.specs.Promises.{run_at}
use Rattle.tables_onebyte.specs.declared.OneByteTable.TheVariants.{JisX0201Katakana}
use Rattle.tables_onebyte.proofs.OneByteLaws.{agree}
use Rattle.tables_onebyte.proofs.Rules.{jis_x0201_katakana_rule}
use Rattle.tables_onebyte.proofs.jis_x0201_katakana.Goals as goal

pub returns : goal.returns
returns c =
    let x = c.args.c in
    rw (c.run_at.ensures ∙ sym (agree JisX0201Katakana (run_at 0xFF61 0x5F) jis_x0201_katakana_rule x (omega arith))) at c.one_byte_of.ensures
