-- `decode_output::put_times` meets its contract. The loop's invariant: c is written as often as it turned, and `to` is the length of that. Assumes nothing.
use Prim.Native.Nat.{ℕ, ◌+◌}
use mathlib.Core.Path.{◌≡◌, refl, sym, ap, ◌∙◌}
use native.Mathlib.Omega.{arith}
use native.Mathlib.Numerals.{add-one}
use mathlib.Core.List.{◌++◌}
use lib.ListN.{length, replicate, length-append}
use lib.Seq.{sets, length-sets}
use Rattle.utf8.specs.Utf8.{utf8, utf8s}
use Rattle.decode_output.proofs.Sets.{sets_end}
use Rattle.utf8.proofs.Bytes.{length_utf8}
use Rattle.decode_output.proofs.Counts.{times_most, times_more}
use Rattle.decode_output.proofs.put_times.Goals as goal

pub loop-init : goal.loop-init
unfolding utf8s
loop-init c = (refl, refl, refl)

pub overflow_add-to : goal.overflow_add-to
overflow_add-to c =
    let a = c.args in
    let l = c.loop in
    omega (arith, c.put-to.ensures.count, (length_utf8 a.c).most, times_most l.counter a.c)

pub loop-preserved : goal.loop-preserved
loop-preserved c =
    let a = c.args in
    let l = c.loop in
    let p = c.put-to.ensures in
    let m : utf8s (replicate l.counter a.c) ++ utf8 a.c ≡ utf8s (replicate (l.counter + 1) a.c) = sym (times_more l.counter a.c) ∙
    ap (λ (n : ℕ). utf8s (replicate n a.c)) (sym (add-one l.counter)) in (
      ap length p.bytes ∙ length-sets l.part l.to (utf8 a.c) ∙ l.invariant.0,
      omega (arith, p.count, ap length m, length-append (utf8s (replicate l.counter a.c)) (utf8 a.c)),
      p.bytes ∙ sets_end (utf8s (replicate l.counter a.c)) (utf8 a.c) a.part.now l.invariant.2 l.invariant.1 ∙ ap (sets a.part.now 0) m,
    )
