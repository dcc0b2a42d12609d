-- `decode_output::emit_times` meets its contract. Assumes nothing.
use mathlib.Core.Path.{refl}
use native.Mathlib.Omega.{arith}
use Rattle.private_use.proofs.Laws.{count_most}
use Rattle.decode_output.proofs.Counts.{width_times, times_most, times_least}
use Rattle.decode_output.proofs.Held.{holds_moved, holds_counted}
use Rattle.decode_output.proofs.emit_times.Goals as goal

pub overflow_mul-d : goal.overflow_mul-d
overflow_mul-d c =
    let a = c.args in
    omega (arith, width_times a.n a.c c.width.ensures, times_most a.n a.c)

pub overflow_add-to : goal.overflow_add-to
overflow_add-to c =
    let a = c.args in
    omega (arith, width_times a.n a.c c.width.ensures, times_most a.n a.c)

pub insert-requires : goal.insert-requires
insert-requires c =
    let a = c.args in
    (omega arith, width_times a.n a.c c.width.ensures)

pub returns-then-len-text : goal.returns-then-len-text
returns-then-len-text c =
    let a = c.args in
    let e = width_times a.n a.c c.width.ensures in
    λ i.
    record {
      does = λ t₀ i₀ o h. holds_moved h a.n a.c e c.if-len-text.true refl c.insert.ensures;
      grew = record {
        ordered = (omega arith, omega (arith, e, times_least a.n a.c, count_most a.n a.c));
        repeat = omega arith;
        text = omega (arith, e, times_most a.n a.c);
        issues = omega arith;
      };
    }

pub returns-else-len-text : goal.returns-else-len-text
returns-else-len-text c =
    let a = c.args in
    let e = width_times a.n a.c c.width.ensures in
    λ i.
    record {
      does = λ t₀ i₀ o h. holds_counted h a.n a.c e (omega (arith, c.if-len-text.false));
      grew = record {
        ordered = (omega arith, omega (arith, e, times_least a.n a.c, count_most a.n a.c));
        repeat = omega arith;
        text = omega (arith, e, times_most a.n a.c);
        issues = omega arith;
      };
    }
