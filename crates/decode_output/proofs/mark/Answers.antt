-- `decode_output::mark` meets its contract. Assumes nothing.
use native.Mathlib.Omega.{arith}
use Rattle.utf8.proofs.Bytes.{length_utf8}
use Rattle.decode_output.proofs.Held.{holds_mark, first_none, first_some}
use Rattle.decode_output.proofs.mark.Goals as goal

pub overflow_add-r : goal.overflow_add-r
overflow_add-r c =
    omega (arith, c.put.ensures.count, (length_utf8 c.args.m).most)

pub returns-then-o-end : goal.returns-then-o-end
returns-then-o-end c =
    let a = c.args in
    let p = c.requires.room in
    let w = c.put.ensures in
    λ i.
    record {
      does = λ t₀ i₀ o h. rw (w.bytes, w.count, c.pushed.ensures) (holds_mark h a.m a.at c.requires.m_value (first_none h a.at c.if-o-end.true));
      grew = record { ordered = (omega arith, omega arith); repeat = p.repeat; text = omega (arith, (length_utf8 a.m).most); issues = omega arith };
    }

pub returns-else-o-end : goal.returns-else-o-end
returns-else-o-end c =
    let a = c.args in
    let p = c.requires.room in
    let w = c.put.ensures in
    λ i.
    record {
      does = λ t₀ i₀ o h. rw (w.bytes, w.count, c.pushed.ensures) (holds_mark h a.m a.at c.requires.m_value (first_some h a.at c.if-o-end.false));
      grew = record { ordered = (omega arith, omega arith); repeat = p.repeat; text = omega (arith, (length_utf8 a.m).most); issues = omega arith };
    }
