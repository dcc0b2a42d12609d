-- What the functions promise.
use Rattle.std.specs.Prelude.{ℕ, ◌≤◌, ◌≡◌, Bool, List, length, take}
use Rattle.jis_tab.specs.CellTable.{cell_table}

-- The first r numbers count. In a buffer for 8,836 they are the cell table.
pub record Filled (present : Bool) (bytes before cells : List ℕ) (r : ℕ) : Type 0 where
  pub within : r ≤ length cells
  pub counted : r ≡ length (take r cells)
  pub table : length before ≡ 8836 → take r cells ≡ cell_table present bytes
