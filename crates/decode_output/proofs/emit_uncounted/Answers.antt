-- `decode_output::emit_uncounted` meets its contract. Assumes nothing.
use Prim.Native.Nat.{ℕ}
use mathlib.Core.Path.{◌≡◌, ap, sym, ◌∙◌}
use lib.ListN.{replicate}
use native.Mathlib.Omega.{arith}
use Rattle.decode_output.specs.Output.{times}
use Rattle.private_use.specs.PrivateUse.{private_use}
use Rattle.private_use.proofs.Laws.{count_most}
use Rattle.utf8.proofs.Bytes.{length_utf8}
use Rattle.decode_output.proofs.Held.{held_repeat, emit_times_lem, times_some, holds_plain}
use Rattle.decode_output.proofs.emit_uncounted.Goals as goal

-- as many private-use characters, however the number of times is said
often : {n m : ℕ} → n ≡ m → (c : ℕ) → private_use (replicate n c) ≡ private_use (replicate m c)
often e c = ap (λ (k : ℕ). private_use (replicate k c)) e

pub returns-then-o-ne0 : goal.returns-then-o-ne0
returns-then-o-ne0 c =
    let a = c.args in
    λ i.
    let w = rw (often (times_some a.o.repeat c.if-o-ne0.true) a.c) at (c.emit_times.ensures i) in
    record {
      does = λ t₀ i₀ o h. rw (emit_times_lem o a.c (times_some a.o.repeat c.if-o-ne0.true ∙ ap times (held_repeat h))) at (w.does t₀ i₀ o h);
      grew = w.grew;
    }

pub returns-then-o-end : goal.returns-then-o-end
unfolding times
returns-then-o-end c =
    let a = c.args in
    λ i.
    let w = rw (often (ap times (sym c.if-o-ne0.false)) a.c) at (c.emit_times-then-o-end.ensures i) in
    record {
      does = λ t₀ i₀ o h. rw (emit_times_lem o a.c (ap times (sym c.if-o-ne0.false ∙ held_repeat h))) at (w.does t₀ i₀ o h);
      grew = w.grew;
    }

pub overflow_add-to : goal.overflow_add-to
overflow_add-to c =
    let a = c.args in
    omega (arith, c.put.ensures.count, (length_utf8 a.c).most)

pub returns : goal.returns
unfolding times
returns c =
    let a = c.args in
    let w = c.put.ensures in
    let p = sym (often (ap times (sym c.if-o-ne0.false)) a.c) in
    λ i.
    record {
      does = λ t₀ i₀ o h. rw (w.bytes, w.count, p) (holds_plain h a.c c.if-o-end.false c.if-o-ne0.false);
      grew = record {
        ordered = (omega arith, omega (arith, p, count_most 1 a.c, (length_utf8 a.c).least));
        repeat = omega arith;
        text = omega (arith, (length_utf8 a.c).most);
        issues = omega arith;
      };
    }
