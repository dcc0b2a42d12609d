-- `clean_checked`: all steps up to the first issue, the release of the marks, and the answer.
use native.Mathlib.Omega.{arith}
use lib.ListN.{length}
use Rattle.questions.proofs.Refusals.{passed}
use Rattle.decode_outer.proofs.Start.{outside_start, room_end}
use Rattle.reading.specs.WithoutBuffers.{lent, refusal}
use Rattle.clean.proofs.Calls.{answered_no, answered_end}
use Rattle.clean.proofs.clean_checked.Goals as goal

pub top-w-requires : goal.top-w-requires
top-w-requires c =
    let short = (passed _ _ _ _ _ c.requires).within in
    record { from_in_bounds = (omega arith, omega arith); outside = outside_start c.args.input.now c.args.initial c.args.width 1 short c.start-start.ensures c.undefined-none.ensures }

pub returns-then-out-gt0 : goal.returns-then-out-gt0
unfolding refusal
returns-then-out-gt0 c =
    let a = c.args in
    let short = (passed a.cells.now a.initial a.width 65535 (length a.input.now) c.requires).within in
    answered_no a.cells.now a.initial a.width a.input.now _ _ _ _ c.top-w.result _ _ c.requires short c.start-start.ensures c.undefined-none.ensures
    c.top-w.ensures
    c.if-out-gt0.true

pub flush_dangling-flushed-requires : goal.flush_dangling-flushed-requires
flush_dangling-flushed-requires c =
    room_end c.args.input.now c.args.initial c.args.width 1 (passed _ _ _ _ _ c.requires).within c.start-start.ensures c.undefined-none.ensures
    c.top-w.ensures

pub returns : goal.returns
unfolding refusal
returns c =
    let a = c.args in
    let short = (passed a.cells.now a.initial a.width 65535 (length a.input.now) c.requires).within in
    answered_end a.cells.now a.initial a.width a.input.now _ _ _ _ c.top-w.result _ _ c.requires short c.start-start.ensures c.undefined-none.ensures
    c.top-w.ensures
    c.if-out-gt0.false (c.flush_dangling-flushed.ensures _)
