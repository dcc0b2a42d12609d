-- What a code of a two-byte set reads as: `char2` of decode.rs in two parts.
use Rattle.std.specs.Prelude.{ℕ, cond, ◌&&◌, ◌||◌, List, eqb, leb}
use Rattle.addsym.specs.Symbols.{symbol}
use Rattle.tables.specs.Kanji.{kanji_at}
use Rattle.issues.specs.declared.IssueKind.{IssueKind}
use Rattle.issues.specs.declared.IssueKind.TheVariants.{UndefinedCode, UnsupportedCode, Drcs}

-- the character of the set z at a row and a cell, 0 for none: Kanji, the additional symbols, and of JIS Kanji plane 1 the rows 1 to 84
unfoldable pub cell_at : List ℕ → ℕ → ℕ → ℕ → ℕ
unfolding kanji_at symbol
cell_at cells z row cell =
    cond (eqb z 0) (kanji_at cells row cell)
    (cond (eqb z 14) (symbol row cell)
    (cond (eqb z 12 && leb row 84) (kanji_at cells row cell) 0))

-- the issue of a code that has none
unfoldable pub issue_of : ℕ → ℕ → IssueKind
issue_of z code = cond (eqb z 0 || eqb z 14) (UndefinedCode z code) (cond (eqb z 16) (Drcs 0 code) (UnsupportedCode z code))
