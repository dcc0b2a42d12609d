-- `decoded` meets its contract: the lines stand one after another, and each has its greatest length. Assumes nothing.
use native.Mathlib.Omega.{arith}
use Rattle.lent.proofs.Putting.{put_then}
use Rattle.listing_form.specs.Lines.{decoding_lines}
use Rattle.listing_form.proofs.Lines.{first_within, text_within, lines_few}
use Rattle.listing_form.proofs.decoded.Goals as goal

pub hexadecimal-at-requires : goal.hexadecimal-at-requires
hexadecimal-at-requires c =
    let h = c.requires in
    (omega (arith, first_within c.args.n c.args.k c.args.charged (h.0, h.1, h.2) c.first_line-at.ensures), h.3)

pub word-at-requires : goal.word-at-requires
word-at-requires c =
    let h = c.requires in
    let f = first_within c.args.n c.args.k c.args.charged (h.0, h.1, h.2) c.first_line-at.ensures in
    omega (arith, text_within c.args.text.now h.3 f c.hexadecimal-at.ensures)

pub issue_lines-requires : goal.issue_lines-requires
issue_lines-requires c =
    let h = c.requires in
    let f = first_within c.args.n c.args.k c.args.charged (h.0, h.1, h.2) c.first_line-at.ensures in
    let t = text_within c.args.text.now h.3 f c.hexadecimal-at.ensures in
    (omega (arith, t, c.word-at.ensures.next), h.1, h.4)

pub returns : goal.returns
unfolding decoding_lines
returns c =
    let h = c.requires in
    let f = first_within c.args.n c.args.k c.args.charged (h.0, h.1, h.2) c.first_line-at.ensures in
    let t = text_within c.args.text.now h.3 f c.hexadecimal-at.ensures in
    let few = lines_few c.args.k c.args.issues.now (λ k. omega (arith, c.type_inv.issues k)) in
    record {
      put = put_then (put_then (put_then c.first_line-at.ensures c.hexadecimal-at.ensures) c.word-at.ensures) c.issue_lines.ensures;
      long = omega (arith, h.1, t, few, c.word-at.ensures.next, c.issue_lines.ensures.next);
    }
