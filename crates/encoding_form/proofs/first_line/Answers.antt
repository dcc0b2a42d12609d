-- `first_line` meets its contract: words and numbers stand one after another. Assumes nothing.
use Rattle.lent.proofs.Putting.{put_then}
use Rattle.encoding_form.specs.Lines.{first_line}
use Rattle.encoding_form.proofs.first_line.Goals as goal

pub returns : goal.returns
unfolding first_line
returns c =
    let coding = put_then c.word-at.ensures c.decimal-at.ensures.put in
    put_then (put_then (put_then coding c.word-at-2.ensures) c.decimal-at-2.ensures.put) c.word.ensures
