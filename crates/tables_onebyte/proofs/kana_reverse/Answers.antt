-- `tables_onebyte::kana_reverse` meets its contract: eight signs, and a run. Assumes nothing.
use mathlib.Core.Path.{sym}
use Prim.Native.Nat.{◌+◌}
use native.Mathlib.Omega.{arith}
use borrow.Author.Tests.{ne_eqb}
use Rattle.tables_onebyte.specs.Reverse.{code_value}
use Rattle.tables_onebyte.specs.Promises.{kana_at}
use Rattle.tables_onebyte.proofs.CodeLaws.{key, no_sign, kana_run}
use Rattle.tables_onebyte.proofs.kana_reverse.Goals as goal

pub returns-then-c-kana : goal.returns-then-c-kana
unfolding kana_at
returns-then-c-kana c =
    key (kana_at c.args.kana) c.args.c 0x77 (omega arith) (omega arith) c.requires.iteration_from c.if-c-kana.true

pub returns-then-c-kana-2 : goal.returns-then-c-kana-2
unfolding kana_at
returns-then-c-kana-2 c =
    let a = c.args in
    key (kana_at a.kana) a.c 0x78 (omega arith) (omega arith) (omega arith) c.if-c-kana-2.true

pub returns-in-12540 : goal.returns-in-12540
unfolding kana_at
returns-in-12540 c =
    let a = c.args in
    key (kana_at a.kana) a.c 0x79 (omega arith) (omega arith) (omega arith) c.in-12540.is

pub returns-in-12290 : goal.returns-in-12290
unfolding kana_at
returns-in-12290 c =
    let a = c.args in
    key (kana_at a.kana) a.c 0x7A (omega arith) (omega arith) (omega arith) c.in-12290.is

pub returns-in-12300 : goal.returns-in-12300
unfolding kana_at
returns-in-12300 c =
    let a = c.args in
    key (kana_at a.kana) a.c 0x7B (omega arith) (omega arith) (omega arith) c.in-12300.is

pub returns-in-12301 : goal.returns-in-12301
unfolding kana_at
returns-in-12301 c =
    let a = c.args in
    key (kana_at a.kana) a.c 0x7C (omega arith) (omega arith) (omega arith) c.in-12301.is

pub returns-in-12289 : goal.returns-in-12289
unfolding kana_at
returns-in-12289 c =
    let a = c.args in
    key (kana_at a.kana) a.c 0x7D (omega arith) (omega arith) (omega arith) c.in-12289.is

pub returns-in-12539 : goal.returns-in-12539
unfolding kana_at
returns-in-12539 c =
    let a = c.args in
    key (kana_at a.kana) a.c 0x7E (omega arith) (omega arith) (omega arith) c.in-12539.is

pub returns-in_default : goal.returns-in_default
returns-in_default c =
    let k = c.args.kana in
    let x = c.args.c in
    let n = c.in_default.in_default-own.rest in
    kana_run k c.requires x
    (no_sign k.iteration x
    (rw (
      ne_eqb k.iteration x (λ e. c.if-c-kana.false (sym e)),
      ne_eqb (k.iteration + 1) x (λ e. c.if-c-kana-2.false (sym e)),
      ne_eqb 0x30FC x (λ e. n.0.0.0.0.0.1 (sym e)),
      ne_eqb 0x3002 x (λ e. n.0.0.0.0.1 (sym e)),
      ne_eqb 0x300C x (λ e. n.0.0.0.1 (sym e)),
      ne_eqb 0x300D x (λ e. n.0.0.1 (sym e)),
      ne_eqb 0x3001 x (λ e. n.0.1 (sym e)),
      ne_eqb 0x30FB x (λ e. n.1 (sym e)),
    ) tt))
    (code_value c.run_reverse.result)
    c.run_reverse.ensures
