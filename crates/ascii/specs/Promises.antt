-- What functions promise that print lines.
use Rattle.std.specs.Prelude.{ℕ, ◌≤◌, List}
use Rattle.lent.specs.Put.{Put}

-- xs stands at the front, and is at most so long
pub record Printed (most : ℕ) (l xs l' : List ℕ) (r : ℕ) : Type 0 where
  pub put : Put l 0 xs l' r
  pub long : r ≤ most
