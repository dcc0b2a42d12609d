-- `decode_output::issue` meets its contract. Assumes nothing.
use native.Mathlib.Omega.{arith}
use Rattle.decode_output.proofs.Held.{holds_report}
use Rattle.decode_output.proofs.issue.Goals as goal

pub returns : goal.returns
returns c =
    let a = c.args in
    let p = c.requires in
    λ t.
    record {
      does = λ t₀ i₀ o h.
          rw (
            c.put32-5.ensures,
            c.put32-4.ensures,
            c.put32-3.ensures,
            c.put32-2.ensures,
            c.put32.ensures,
            c.numbers-n.ensures,
          )
          (holds_report h a.at a.kind);
      grew = record { ordered = p.ordered; repeat = p.repeat; text = omega arith; issues = omega arith };
    }
