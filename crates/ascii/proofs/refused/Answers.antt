-- `refused` meets its contract: words and numbers stand one after another. Assumes nothing.
use native.Mathlib.Omega.{arith}
use Rattle.lent.proofs.Putting.{put_then}
use Rattle.ascii.specs.Ascii.{refused_line}
use Rattle.ascii.proofs.refused.Goals as goal

pub returns : goal.returns
unfolding refused_line
returns c =
    let words = put_then (put_then c.word-next.ensures c.decimal-next.ensures.put) c.word-next-2.ensures in
    record {
      put = put_then (put_then words c.decimal-next-2.ensures.put) c.word.ensures;
      upper_bound =
          omega
          (arith, c.word.ensures, c.word-next-2.ensures, c.word-next.ensures, c.decimal-next-2.ensures.upper_bound, c.decimal-next.ensures.upper_bound);
    }
