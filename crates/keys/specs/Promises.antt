-- What the loops keep: lengths, so that nothing is read or written outside a buffer.
use Rattle.std.specs.Prelude.{◌≡◌, ℕ, ◌≤◌, Bool, true, List, length}
use Rattle.questions.specs.Questions.{cells_hold}
use Rattle.keys.specs.declared.lines.Progress.{Progress}

-- the table, and the lengths of the three buffers: the longest line, the longest title, and room for what waits and one line more
pub record Buffers (cells : List ℕ) (admitted : Bool) (line title out : List ℕ) : Type 0 where
  pub table : admitted ≡ true → cells_hold cells ≡ true
  pub line_long : length line ≡ 131082
  pub title_long : length title ≡ 65535
  pub out_long : length out ≡ 262156

-- what waits leaves room for a line, and the line is not counted past one byte more than the longest
pub record Within (p : Progress) : Type 0 where
  pub waiting : p.used ≤ 65536
  pub counted : p.len ≤ 131083
