-- The one-byte reverse look-ups of the coder: the first code of a table that reads as a character.
use Rattle.std.specs.Prelude.{ℕ, ◌+◌, [], ◌∷◌, ◌≡◌, refl, Option as Answer, Some, None}
use Rattle.std.proofs.Math.Option.{Option, none, some}
use Rattle.base.specs.First.{first}
use Rattle.tables_onebyte.specs.OneByte.{table_of}
use Rattle.tables_onebyte.specs.declared.OneByteTable.{OneByteTable}
use Rattle.tables_onebyte.specs.declared.OneByteTable.TheVariants.{Alphanumeric, Fullwidth, Hiragana}

-- the GL code that a reverse look-up answers, or none
abbrev pub code_value : Answer ℕ → Option ℕ
code_value (Some code) = some code
code_value None = none

-- the GL code of a place of a one-byte table
unfoldable pub code_of : Option ℕ → Option ℕ
code_of none = none
code_of (some i) = some (i + 0x21)

-- a place that reads as its number
abbrev pub number : ℕ → ℕ → ℕ
number i x = x

-- `one_byte_reverse`; with `Fullwidth`, the alphanumeric whose full-width form is c (`candidates` of encode.rs)
unfoldable pub one_byte_reverse : OneByteTable → ℕ → Option ℕ
unfolding table_of first code_of
one_byte_reverse table c = code_of (first number 94 c (table_of table))

-- Worked: あ, FULLWIDTH A, REVERSE SOLIDUS, which the set has no more than its full-width form, and 0.
codes :
    one_byte_reverse Hiragana 0x3042 ∷ one_byte_reverse Fullwidth 0xFF21 ∷ one_byte_reverse Alphanumeric 0x5C ∷ one_byte_reverse Fullwidth 0xFF3C
    ∷ one_byte_reverse Hiragana 0 ∷ []
    ≡ some 0x22 ∷ some 0x41 ∷ none ∷ none ∷ none ∷ []
unfolding one_byte_reverse
codes = refl
