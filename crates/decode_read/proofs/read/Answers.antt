-- `read`: the rest from the first byte on.
use native.Mathlib.Omega.{arith}
use Rattle.decode_outer.proofs.Start.{outside_start, enough_start, issues_start, end_start}
use Rattle.decode_read.proofs.Reading.{read}
use Rattle.decode_read.proofs.read.Goals as goal

pub rest-requires : goal.rest-requires
rest-requires c =
    let a = c.args in
    let n = a.input.now in
    let begun = c.start-start.ensures in
    let none = c.undefined-none.ensures in
    record {
      from_in_bounds = omega arith;
      outside = outside_start n a.initial a.width 0xFFFFFFFF c.requires begun none;
      enough_value = (
        enough_start n a.initial a.width 0xFFFFFFFF c.requires begun none,
        issues_start n a.initial a.width 0xFFFFFFFF c.requires begun none,
        end_start n a.initial a.width 0xFFFFFFFF c.requires begun none,
      );
    }

pub returns : goal.returns
returns c =
    let a = c.args in
    read a.cells.now a.initial a.width a.input.now c.start-start.ensures c.undefined-none.ensures c.rest.ensures
