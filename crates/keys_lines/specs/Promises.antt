-- What the functions promise.
use Rattle.std.specs.Prelude.{ℕ, ◌≤◌, ◌≡◌, Bool, true, List, length, take, Some, None}
use Rattle.std.specs.Prelude as Prelude
use Rattle.std.proofs.Math.Option.{Option, none, some}
use Rattle.questions.specs.Questions.{cells_hold}

-- what a caller lends: a cell table that question 1 admits, if it says so, and room for a title and for what is printed
pub record PrintRoom (cells : List ℕ) (admitted : Bool) (title out : ℕ) : Type 0 where
  pub table : admitted ≡ true → cells_hold cells ≡ true
  pub title_room : 65535 ≤ title
  pub out_room : 196620 ≤ out

-- what is printed stands at the beginning of the buffer
abbrev pub Prints : Option (List ℕ) → Prelude.Option ℕ → List ℕ → Type 0
Prints p (Some n) out = (n ≤ length out) × (p ≡ some (take n out))
Prints p None out = p ≡ none
