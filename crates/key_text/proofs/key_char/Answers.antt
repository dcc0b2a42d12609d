-- `key_char` meets its contract: the arms are the definition's cases. Assumes nothing.
use mathlib.Core.Logic.{inl, inr}
use mathlib.Core.Path.{sym, ap, ◌∙◌}
use mathlib.Core.Option.{some}
use native.Mathlib.Omega.{arith}
use Rattle.key_text.specs.KeyText.{halfwidth_of, key_char}
use Rattle.key_text.proofs.Characters.{left_out, stays}
use Rattle.key_text.proofs.Widths.{in_run, out_of_run}
use Rattle.key_text.proofs.key_char.Goals as goal

pub returns-in-10 : goal.returns-in-10
returns-in-10 c = sym (left_out c.args.c c.in-10.is)

pub returns-in-65340 : goal.returns-in-65340
unfolding key_char halfwidth_of
returns-in-65340 c = rw c.in-65340.is

pub returns-in-65509 : goal.returns-in-65509
unfolding key_char halfwidth_of
returns-in-65509 c = rw c.in-65509.is

-- inside the run
pub returns-in-65281-to-65374 : goal.returns-in-65281-to-65374
returns-in-65281-to-65374 c =
    let x = c.args.c in
    let low = c.in-65281-to-65374.if-c-lt65281-own.false in
    let high = c.in-65281-to-65374.if-c-lt65375-own.true in
    sym
    (stays x (λ e. omega arith) (λ e. omega arith) (λ e. omega arith)
    ∙ ap some (in_run x low (omega arith) c.in-65281-to-65374.in_default-own.rest.0.1))

-- before it
pub returns-in_default : goal.returns-in_default
returns-in_default c =
    let x = c.args.c in
    let n = c.in_default.in_default-own.rest in
    let low = c.in_default.if-c-lt65281-own.true in
    sym
    (stays x (λ e. n.0.0.1 (inl e)) (λ e. n.0.0.1 (inr (inl e))) (λ e. n.0.0.1 (inr (inr e)))
    ∙ ap some (out_of_run x n.1 (λ a b. omega arith)))

-- behind it
pub returns-in_default-2 : goal.returns-in_default-2
returns-in_default-2 c =
    let x = c.args.c in
    let low = c.in_default.if-c-lt65281-own.false in
    let high = c.in_default.if-c-lt65375-own.false in
    sym
    (stays x (λ e. omega arith) (λ e. omega arith) (λ e. omega arith)
    ∙ ap some (out_of_run x c.in_default.in_default-own.rest.1 (λ a b. omega arith)))
