-- `decode_output::emit_private_use` meets its contract. Assumes nothing.
use mathlib.Core.Path.{sym, ◌∙◌}
use mathlib.Core.List.{[]}
use native.Mathlib.Omega.{arith}
use Rattle.decode_output.specs.Output.{times}
use Rattle.private_use.proofs.Laws.{count_private}
use Rattle.decode_output.proofs.emit_private_use.Goals as goal

pub overflow_add-r : goal.overflow_add-r
overflow_add-r c =
    let a = c.args in
    let grew = (c.emit_uncounted-r.ensures []).grew in
    let n = c.times-n.ensures ∙ sym (count_private (times a.o.repeat) a.c c.requires.c_value) in
    omega (arith, n, grew.ordered.1, grew.text, c.requires.room.text)

pub returns : goal.returns
returns c =
    let a = c.args in
    let n = c.times-n.ensures ∙ sym (count_private (times a.o.repeat) a.c c.requires.c_value) in
    λ i. rw n (c.emit_uncounted-r.ensures i)
