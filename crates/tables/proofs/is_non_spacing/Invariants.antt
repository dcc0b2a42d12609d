-- `tables::is_non_spacing` meets its contract. The invariant: there was a turn for each mark so far, and none of these
-- is `c`. Assumes nothing.
use Rattle.std.proofs.Common.{ℕ, ◌≡◌, ◌<◌, get_or}
use Rattle.tables.specs.Kanji.{non_spacing}
use Rattle.tables.proofs.CellLaws.{outside}
use Rattle.tables.proofs.is_non_spacing.Given as goal

abbrev pub invariant-loop-a : goal.invariant-loop-a
invariant-loop-a l = (l.turns ≡ l.a-index) × ((k : ℕ) → k < l.a-index → (get_or non_spacing k outside).character ≡ l.c → ⊥)
