-- `tables::mark_cell` meets its contract: the turns of a mark name its cell. Assumes nothing.
use mathlib.Core.Path.{◌≡◌, ◌∙◌}
use mathlib.Core.Bool.{false}
use mathlib.Core.Option.{none, some}
use Prim.Native.Nat.{ℕ, suc, ◌-◌, ◌<◌}
use native.Mathlib.Omega.{arith}
use borrow.Author.Tests.{ltb-false}
use lib.ListN.{get_or}
use Rattle.tables.specs.Kanji.{non_spacing, has_character, cell_with}
use Rattle.tables.specs.Marks.{place_with}
use Rattle.tables.proofs.CellLaws.{outside, has_place, cell_there, cell_nowhere}
use Rattle.tables.proofs.MarkLaws.{placed, tested, turned}
use Rattle.tables.proofs.mark_cell.Goals as goal

-- the cell that the turns name
there : (c n : ℕ) → n ≡ suc (place_with non_spacing c) → place_with non_spacing c < 7
    → some ((get_or non_spacing (n - 1) outside).row, (get_or non_spacing (n - 1) outside).cell) ≡ cell_with non_spacing c
there c n e h =
    let p : n - 1 ≡ place_with non_spacing c = omega (arith, e) in
    rw p (cell_there non_spacing c h)

nowhere : (c : ℕ) → has_character non_spacing c ≡ false → none ≡ cell_with non_spacing c
nowhere c e = cell_nowhere non_spacing c (ltb-false (place_with non_spacing c) 7 (has_place non_spacing c ∙ e))

-- where the test says that there is a mark, its place, and as many turns, counted from 1
place : (c : goal.After-struct_known-1) → place_with non_spacing c.args.c < 7
place c = placed c.args.c (tested c.args.c c.is_non_spacing-test.ensures c.if-test.true)

turns : (c : goal.After-struct_known-1) → c.is_non_spacing-test.result.turns ≡ suc (place_with non_spacing c.args.c)
turns c = turned c.args.c c.is_non_spacing-test.ensures c.if-test.true

pub overflow_sub-a : goal.overflow_sub-a
overflow_sub-a c = omega (arith, turns c)

pub offset_bounds-test : goal.offset_bounds-test
offset_bounds-test c = omega (arith, turns c, place c)

pub bounds-test-test : goal.bounds-test-test
bounds-test-test c = omega (arith, turns c, place c)

pub returns-then-test : goal.returns-then-test
returns-then-test c = there c.args.c c.is_non_spacing-test.result.turns (turns c.before) (place c.before)

pub returns : goal.returns
returns c = nowhere c.args.c (tested c.args.c c.is_non_spacing-test.ensures c.if-test.false)
