-- `rest`: all steps from a byte, the release of the marks, and the counts.
use native.Mathlib.Omega.{arith}
use Rattle.decode_outer.proofs.Start.{room_after}
use Rattle.decode_read.proofs.Reading.{read_on}
use Rattle.decode_read.proofs.rest.Goals as goal

pub top-w-requires : goal.top-w-requires
top-w-requires c =
    record { from_in_bounds = (c.requires.from_in_bounds, omega arith); outside = c.requires.outside }

pub flush_dangling-flushed-requires : goal.flush_dangling-flushed-requires
flush_dangling-flushed-requires c =
    room_after c.requires.outside c.requires.enough_value.1 c.top-w.ensures

pub returns : goal.returns
returns c =
    let a = c.args in
    read_on a.cells.now a.input.now a.from c.requires.from_in_bounds c.requires.outside c.requires.enough_value.0 c.requires.enough_value.1 c.requires.enough_value.2
    c.top-w.ensures (c.flush_dangling-flushed.ensures _)
