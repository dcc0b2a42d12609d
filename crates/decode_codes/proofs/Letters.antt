-- No letter is a private-use character: one computed test of each one-byte table. Assumes nothing.
use Prim.Native.Nat.{ℕ, ◌-◌}
use mathlib.Core.Path.{◌≡◌, refl}
use mathlib.Core.Bool.{Bool, false, ◌||◌}
use native.Mathlib.Omega.{arith}
use lib.Dec.{eqb, ltb}
use Rattle.base.proofs.Tests.{either}
use Rattle.private_use.specs.PrivateUse.{is_private_use, private_use}
use Rattle.private_use.proofs.Laws.{below, none_at}
use Rattle.tables_onebyte.specs.OneByte.{table_of, one_byte_at}
use Rattle.tables_onebyte.specs.declared.OneByteTable.{OneByteTable}
use Rattle.tables_onebyte.specs.declared.OneByteTable.TheVariants.{Alphanumeric, Fullwidth, Hiragana, Katakana, JisX0201Katakana}
use Rattle.reading.specs.Characters.{letter}

table_ordinary : (t : OneByteTable) → private_use (table_of t) ≡ 0
unfolding table_of private_use
table_ordinary Alphanumeric = refl
table_ordinary Fullwidth = refl
table_ordinary Hiragana = refl
table_ordinary Katakana = refl
table_ordinary JisX0201Katakana = refl

abbrev Ordinary : ℕ → Type 0
Ordinary c = is_private_use c ≡ false

none : Ordinary 0
none = below 0 (omega arith)

one_byte_ordinary : (t : OneByteTable) (c : ℕ) → Ordinary (one_byte_at t c)
unfolding one_byte_at
one_byte_ordinary t c = either Ordinary (ltb c 0x21) none (none_at (table_of t) (table_ordinary t) (c - 0x21))

pub letter_ordinary : (narrow : Bool) (number c : ℕ) → is_private_use (letter narrow number c) ≡ false
unfolding letter
letter_ordinary narrow number c =
    either Ordinary (eqb number 1 || eqb number 8) (either Ordinary narrow (one_byte_ordinary Alphanumeric c) (one_byte_ordinary Fullwidth c))
    (either Ordinary (eqb number 2 || eqb number 9) (one_byte_ordinary Hiragana c)
    (either Ordinary (eqb number 3 || eqb number 10) (one_byte_ordinary Katakana c)
    (either Ordinary (eqb number 11) (one_byte_ordinary JisX0201Katakana c) none)))
