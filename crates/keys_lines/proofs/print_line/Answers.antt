-- `print_line` meets its contract: NUMBER and TAB, the key or a refusal behind them, and the newline. Assumes nothing.
use Prim.Native.Nat.{ℕ, ◌+◌, ◌-◌, ◌≤◌}
use mathlib.Core.Path.{◌≡◌, refl, sym, ap, ◌∙◌}
use mathlib.Core.List.{List}
use native.Mathlib.Omega.{arith}
use lib.ListN.{length, take}
use lib.Seq.{length-take-le}
use Rattle.keys_lines.specs.Line.{room_for}
use Rattle.keys_lines.proofs.Writing.{room_bound, room_inside, answer_fits, line_printed}
use Rattle.keys_lines.proofs.print_line.Goals as goal

-- the room is that of the title's bytes, and so much is lent
size : {n room : ℕ} (title : List ℕ) → room ≡ room_for n → n ≤ length title → room ≡ room_for (length (take n title))
size title e h = e ∙ ap room_for (sym (length-take-le _ _ h))

lent-size : {n room : ℕ} (at : ℕ) (title : List ℕ) → room ≡ room_for n → n ≤ length title → at + room - at ≡ room_for (length (take n title))
lent-size at title e h = omega (arith, size title e h)

pub overflow_add-end : goal.overflow_add-end
overflow_add-end c =
    let t = c.put_title-n in
    omega (arith, size t.new.title c.room_for.ensures t.ensures.inside, room_bound (length (take t.result t.new.title)), c.put_number-at.ensures.upper_bound)

pub slice_bounds-title_key-end-2 : goal.slice_bounds-title_key-end-2
slice_bounds-title_key-end-2 c =
    sym (length-take-le _ _ c.put_title-n.ensures.inside)

pub slice_bounds-title_key-end-3 : goal.slice_bounds-title_key-end-3
slice_bounds-title_key-end-3 c =
    let number = c.put_number-at.ensures in
    omega (
      arith,
      room_inside c.args.cells.now c.args.line.now _ c.put_title-n.ensures.bytes _ _ _ number.put number.upper_bound
          c.requires.print_room.out_room _ (size c.put_title-n.new.title c.room_for.ensures c.put_title-n.ensures.inside),
    )

pub title_key-requires : goal.title_key-requires
title_key-requires c =
    let t = c.put_title-n in
    (c.requires.print_room.table, omega (arith, t.ensures.few, length-take-le t.result t.new.title t.ensures.inside))

pub put_answer-requires : goal.put_answer-requires
put_answer-requires c =
    let number = c.put_number-at.ensures in
    answer_fits c.args.cells.now c.args.line.now _ c.put_title-n.ensures.bytes _ _ _ number.put number.upper_bound c.requires.print_room.out_room _
    (lent-size c.put_number-at.result c.put_title-n.new.title c.room_for.ensures c.put_title-n.ensures.inside)
    _ _ c.in-Ok.ensures c.title_key.auto.out _ refl

pub put_answer-requires-in-Err : goal.put_answer-requires-in-Err
put_answer-requires-in-Err c =
    let number = c.put_number-at.ensures in
    answer_fits c.args.cells.now c.args.line.now _ c.put_title-n.ensures.bytes _ _ _ number.put number.upper_bound c.requires.print_room.out_room _
    (lent-size c.put_number-at.result c.put_title-n.new.title c.room_for.ensures c.put_title-n.ensures.inside)
    _ _ c.in-Err.ensures c.title_key.auto.out _ refl

pub returns-in-Ok : goal.returns-in-Ok
returns-in-Ok c =
    let number = c.put_number-at.ensures in
    line_printed c.args.cells.now c.args.line.now _ c.put_title-n.ensures.bytes _ _ _ number.put number.upper_bound c.requires.print_room.out_room _
    (lent-size c.put_number-at.result c.put_title-n.new.title c.room_for.ensures c.put_title-n.ensures.inside)
    _ _ c.in-Ok.ensures c.title_key.auto.out _ _ refl refl
    c.put_answer.ensures.put c.put_answer.ensures.upper_bound

pub returns-in-Err : goal.returns-in-Err
returns-in-Err c =
    let number = c.put_number-at.ensures in
    line_printed c.args.cells.now c.args.line.now _ c.put_title-n.ensures.bytes _ _ _ number.put number.upper_bound c.requires.print_room.out_room _
    (lent-size c.put_number-at.result c.put_title-n.new.title c.room_for.ensures c.put_title-n.ensures.inside)
    _ _ c.in-Err.ensures c.title_key.auto.out _ _ c.number.ensures refl
    c.put_answer-in-Err.ensures.put c.put_answer-in-Err.ensures.upper_bound
