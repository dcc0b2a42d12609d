-- What the functions promise.
use Rattle.std.specs.Prelude.{ℕ, zero, suc, ◌+◌, ◌≤◌, ◌≡◌, List, length, take}
use Rattle.ascii.specs.Ascii.{newline, refused_line}
use Rattle.keys_form.specs.Line.{bytes_of, hex_of}

-- the title of a line stands in the first n bytes of a buffer, which keeps its length
pub record Titled (line before after : List ℕ) (n : ℕ) : Type 0 where
  pub few : n ≤ 65535
  pub inside : n ≤ length after
  pub bytes : take n after ≡ bytes_of (hex_of line)

-- what is put for an answer, and where: a newline behind the key, which stands there already, or a refusal's line
abbrev pub ending_at : ℕ → ℕ → ℕ → ℕ
ending_at at zero len = at + len
ending_at at (suc q) len = at

abbrev pub ending : ℕ → List ℕ
ending zero = newline
ending (suc q) = refused_line (suc q) 0
