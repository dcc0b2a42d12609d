-- `tables_onebyte::run_reverse` meets its contract. Assumes nothing.
use mathlib.Core.Path.{◌≡◌, ◌∙◌}
use Prim.Native.Nat.{◌+◌, ◌-◌}
use native.Mathlib.Omega.{arith}
use Rattle.tables_onebyte.proofs.CodeLaws.{run_in, run_out}
use Rattle.tables_onebyte.proofs.run_reverse.Goals as goal

pub returns-then-c-first : goal.returns-then-c-first
returns-then-c-first c code e =
    let a = c.args in
    run_out a.first a.last code a.c (λ h l w. omega (arith, c.if-c-first.true)) e

pub returns-then-last-c : goal.returns-then-last-c
returns-then-last-c c code e =
    let a = c.args in
    run_out a.first a.last code a.c (λ h l w. omega (arith, c.if-last-c.true)) e

pub returns : goal.returns
returns c =
    let a = c.args in
    let k = a.c - a.first + 0x21 in
    let q : a.first + (k - 0x21) ≡ a.c = omega (arith, c.if-c-first.false) in
    record {
      from = omega arith;
      to = omega (arith, c.if-last-c.false, c.requires.le_last, c.requires.last_bound);
      character = omega (arith, c.if-c-first.false, c.requires.le_first);
      reads = run_in a.first a.last k (omega arith) (omega (arith, c.if-last-c.false, c.requires.le_last)) ∙ q;
    }
