-- `clean`: a question that fails refuses; else the steps answer.
use mathlib.Core.Path.{◌≡◌}
use borrow.Author.Rules.{rules}
use Rattle.std.specs.Prelude.{Err}
use Rattle.reading.specs.WithoutBuffers.{lent, refusal}
use Rattle.clean.proofs.Calls.{refused}
use Rattle.clean.proofs.clean.Goals as goal

pub returns-in_err-first : goal.returns-in_err-first
unfolding refusal
returns-in_err-first c =
    let a = c.args in
    let e = c.in_err-first.field-0.0 in
    let is : c.from_residual.result ≡ Err e = search rules in
    refused (lent a.cells.now a.initial a.width a.input.now) e is c.in_err-first.ensures.number c.in_err-first.ensures.place
