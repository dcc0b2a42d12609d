-- What functions promise that put bytes into a lent buffer.
use Rattle.std.specs.Prelude.{ℕ, ◌+◌, ◌≡◌, List, length}
use Rattle.std.proofs.lemmas.List.Edits.{sets}

-- the bytes stand in the buffer from the place `at` on, as far as it reaches, nothing else is changed, and r is the place behind them
pub record Put (before : List ℕ) (at : ℕ) (bytes after : List ℕ) (r : ℕ) : Type 0 where
  pub written : after ≡ sets before at bytes
  pub next : r ≡ at + length bytes
