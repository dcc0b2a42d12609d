-- `decode_output::flush_dangling` meets its contract. Assumes nothing.
use native.Mathlib.Omega.{arith}
use Rattle.decode_output.proofs.Held.{holds_kept, holds_released}
use Rattle.decode_output.proofs.flush_dangling.Goals as goal

pub returns-then-o : goal.returns-then-o
returns-then-o c =
    let p = c.requires in
    λ t. record { does = λ t₀ i₀ o h. holds_kept h c.if-o.true; grew = record { ordered = p.ordered; repeat = p.repeat; text = omega arith; issues = omega arith } }

pub returns : goal.returns
returns c =
    λ t.
    let w = c.issue-r.ensures t in
    record {
      does = λ t₀ i₀ o h. holds_released h c.if-o.false (w.does t₀ i₀ o h);
      grew = record { ordered = (omega arith, w.grew.ordered.1); repeat = w.grew.repeat; text = w.grew.text; issues = w.grew.issues };
    }
