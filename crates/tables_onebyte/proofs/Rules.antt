-- Each one-byte table agrees with its rule. Assumes nothing.
use lib.Dec.{T}
use Rattle.tables_onebyte.specs.OneByte.{one_byte_at}
use Rattle.tables_onebyte.specs.Promises.{run_at, alphanumeric_at, kana_at, hiragana_set, katakana_set}
use Rattle.tables_onebyte.specs.declared.OneByteTable.TheVariants.{Alphanumeric, Fullwidth, Hiragana, Katakana, JisX0201Katakana}
use Rattle.tables_onebyte.proofs.OneByteLaws.{agrees}

pub alphanumeric_rule : T (agrees Alphanumeric (alphanumeric_at 0x21 0xA5))
unfolding one_byte_at alphanumeric_at
alphanumeric_rule = tt

pub fullwidth_rule : T (agrees Fullwidth (alphanumeric_at 0xFF01 0xFFE5))
unfolding one_byte_at alphanumeric_at
fullwidth_rule = tt

pub hiragana_rule : T (agrees Hiragana (kana_at hiragana_set))
unfolding one_byte_at kana_at
hiragana_rule = tt

pub katakana_rule : T (agrees Katakana (kana_at katakana_set))
unfolding one_byte_at kana_at
katakana_rule = tt

pub jis_x0201_katakana_rule : T (agrees JisX0201Katakana (run_at 0xFF61 0x5F))
unfolding one_byte_at run_at
jis_x0201_katakana_rule = tt
