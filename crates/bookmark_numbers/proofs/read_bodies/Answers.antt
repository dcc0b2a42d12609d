-- `read_bodies` meets its contract. The invariant: the first starts and lengths are read. Assumes nothing.
use Prim.Native.Nat.{ℕ, ◌-◌}
use mathlib.Core.Path.{refl, sym, ap, ◌∙◌}
use native.Mathlib.Omega.{arith}
use lib.ListN.{take, drop}
use Rattle.bookmark_numbers.proofs.Reading.{read_none, read_one, read_all, length_part, part_at, length_less, less_at}
use Rattle.bookmark_numbers.proofs.read_bodies.Goals as goal

pub loop-code-init : goal.loop-code-init
loop-code-init c = (read_none refl, read_none refl)

pub loop-code-preserved : goal.loop-code-preserved
loop-code-preserved c =
    let l = c.args.l.now in
    let code = c.loop-code.code in
    let p = c.loop-code-test.true in
    let a = c.start_of.ensures ∙ ap (λ (n : ℕ). n - 1) (sym (part_at l 28 (omega (arith, c.requires.l_len)) code p)) ∙ sym (less_at (take 128 (drop 28 l)) code) in
    let b = sym (part_at l 156 (omega (arith, c.requires.l_len)) code p) in
    (read_one _ p a c.loop-code.invariant.0, read_one _ p b c.loop-code.invariant.1)

pub returns : goal.returns
returns c =
    let l = c.args.l.now in
    let h = c.loop-code-test.false in
    let a = length_less (take 128 (drop 28 l)) ∙ length_part l 28 (omega (arith, c.requires.l_len)) in
    record { starts = read_all h a c.loop-code.invariant.0; lens = read_all h (length_part l 156 (omega (arith, c.requires.l_len))) c.loop-code.invariant.1 }
