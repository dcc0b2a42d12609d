-- `tables_onebyte::one_byte_reverse` meets its contract: each table has its rule. Assumes nothing.
use mathlib.Core.Path.{◌≡◌, sym, ap, ◌∙◌}
use mathlib.Core.Option.{Option}
use Prim.Native.Nat.{ℕ}
use Rattle.tables_onebyte.specs.Reverse.{code_value, one_byte_reverse}
use Rattle.tables_onebyte.specs.Promises.{run_at, alphanumeric_at, kana_at, hiragana_set, katakana_set}
use Rattle.tables_onebyte.specs.declared.OneByteTable.{OneByteTable}
use Rattle.tables_onebyte.specs.declared.OneByteTable.TheVariants.{Alphanumeric, Fullwidth, Hiragana, Katakana, JisX0201Katakana}
use Rattle.tables_onebyte.proofs.Rules.{alphanumeric_rule, hiragana_rule, katakana_rule, jis_x0201_katakana_rule}
use Rattle.tables_onebyte.proofs.CodeLaws.{inverse}
use Rattle.tables_onebyte.proofs.one_byte_reverse.Goals as goal

-- an arm answers for the table that it names
arm : {table : OneByteTable} {r : Option ℕ} (known : OneByteTable) (c : ℕ) → table ≡ known → r ≡ one_byte_reverse known c → r ≡ one_byte_reverse table c
arm known c told e = e ∙ ap (λ (t : OneByteTable). one_byte_reverse t c) (sym told)

pub returns-in-Alphanumeric : goal.returns-in-Alphanumeric
returns-in-Alphanumeric c =
    arm Alphanumeric c.args.c c.in-Alphanumeric.is
    (inverse Alphanumeric (alphanumeric_at 0x21 0xA5) alphanumeric_rule c.args.c (code_value c.alphanumeric_reverse.result) c.alphanumeric_reverse.ensures)

pub returns-in-Fullwidth : goal.returns-in-Fullwidth
returns-in-Fullwidth c = arm Fullwidth c.args.c c.in-Fullwidth.is c.half.ensures

pub returns-in-Hiragana : goal.returns-in-Hiragana
returns-in-Hiragana c =
    arm Hiragana c.args.c c.in-Hiragana.is
    (inverse Hiragana (kana_at hiragana_set) hiragana_rule c.args.c (code_value c.kana_reverse.result) c.kana_reverse.ensures)

pub returns-in-Katakana : goal.returns-in-Katakana
returns-in-Katakana c =
    arm Katakana c.args.c c.in-Katakana.is
    (inverse Katakana (kana_at katakana_set) katakana_rule c.args.c (code_value c.kana_reverse-in-Katakana.result) c.kana_reverse-in-Katakana.ensures)

pub returns-in-JisX0201Katakana : goal.returns-in-JisX0201Katakana
returns-in-JisX0201Katakana c =
    arm JisX0201Katakana c.args.c c.in-JisX0201Katakana.is
    (inverse JisX0201Katakana (run_at 0xFF61 0x5F) jis_x0201_katakana_rule c.args.c (code_value c.run_reverse.result) c.run_reverse.ensures)
