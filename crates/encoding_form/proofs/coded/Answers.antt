-- `coded` meets its contract: the lines stand one after another, and each has its greatest length. Assumes nothing.
use native.Mathlib.Omega.{arith}
use Rattle.lent.proofs.Putting.{put_then}
use Rattle.encoding_form.specs.Lines.{coding_lines}
use Rattle.encoding_form.proofs.Lines.{first_within, coding_within}
use Rattle.encoding_form.proofs.coded.Goals as goal

pub hexadecimal-at-requires : goal.hexadecimal-at-requires
hexadecimal-at-requires c =
    let h = c.requires in
    (omega (arith, first_within c.args.n c.args.gap h.0 h.1 c.first_line-at.ensures), omega (arith, h.2))

pub word-requires : goal.word-requires
word-requires c =
    let h = c.requires in
    let f = first_within c.args.n c.args.gap h.0 h.1 c.first_line-at.ensures in
    omega (arith, coding_within c.args.coding.now h.2 f c.hexadecimal-at.ensures)

pub returns : goal.returns
unfolding coding_lines
returns c =
    let h = c.requires in
    let f = first_within c.args.n c.args.gap h.0 h.1 c.first_line-at.ensures in
    record {
      put = put_then (put_then c.first_line-at.ensures c.hexadecimal-at.ensures) c.word.ensures;
      long = omega (arith, coding_within c.args.coding.now h.2 f c.hexadecimal-at.ensures, c.word.ensures.next);
    }
