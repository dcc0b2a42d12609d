-- `decode_output::newline` meets its contract. Assumes nothing.
use native.Mathlib.Omega.{arith}
use Rattle.utf8.proofs.Bytes.{length_utf8}
use Rattle.decode_output.proofs.Held.{holds_newline}
use Rattle.decode_output.proofs.newline.Goals as goal

pub overflow_add-to : goal.overflow_add-to
overflow_add-to c =
    let t = c.args.text.now in
    let g = (c.flush_dangling-r.ensures t).grew in
    omega (arith, c.put.ensures.count, (length_utf8 0x0A).most)

pub returns : goal.returns
returns c =
    let t = c.args.text.now in
    let f = c.flush_dangling-r.ensures t in
    let w = c.put.ensures in
    record {
      does = λ t₀ i₀ o h. rw (w.bytes, w.count) (holds_newline o (f.does t₀ i₀ o h));
      grew = record { ordered = (omega arith, omega (arith, f.grew.ordered.1)); repeat = f.grew.repeat; text = omega (arith, (length_utf8 0x0A).most, f.grew.text); issues = f.grew.issues };
    }
