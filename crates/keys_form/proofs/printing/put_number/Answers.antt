-- `put_number` meets its contract: NUMBER, then TAB. Assumes nothing.
use mathlib.Core.Path.{sym}
use native.Mathlib.Omega.{arith}
use lib.Seq.{length-take-le}
use Rattle.lent.proofs.Putting.{put_then, put_as}
use Rattle.keys_form.proofs.Reading.{formed}
use Rattle.keys_form.proofs.Writing.{number_as, number_behind}
use Rattle.keys_form.proofs.printing.put_number.Goals as goal

pub slice_bounds-word-end : goal.slice_bounds-word-end
slice_bounds-word-end c =
    sym (length-take-le _ _ (omega (arith, (formed c.args.line.now c.args.at c.requires.1 c.requires.0).inside)))

pub word-requires : goal.word-requires
word-requires c =
    let f = formed c.args.line.now c.args.at c.requires.1 c.requires.0 in
    omega (arith, c.word-next.ensures.next, length-take-le c.args.at c.args.line.now (omega (arith, f.inside)), f.short)

pub returns : goal.returns
returns c =
    let line = c.args.line.now in
    let f = formed line c.args.at c.requires.1 c.requires.0 in
    let p = put_then c.word-next.ensures c.word.ensures in
    record { put = put_as (number_as line c.args.at c.requires.1) p; upper_bound = omega (arith, number_behind line c.args.at (omega (arith, f.inside)) p, f.short) }
