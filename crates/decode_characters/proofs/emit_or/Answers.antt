-- `emit_or` meets its contract. Assumes nothing.
use mathlib.Core.Path.{sym, ap, ◌∙◌}
use native.Mathlib.Omega.{arith}
use Prim.Native.Nat.{ℕ}
use Rattle.reading.specs.Characters.{emit_or}
use Rattle.decode_codes.proofs.Laws.{emit_some}
use Rattle.decode_characters.proofs.Did.{did_as}
use Rattle.decode_characters.proofs.Laws.{emit_none}
use Rattle.decode_characters.proofs.emit_or.Goals as goal

pub returns-in-Some : goal.returns-in-Some
returns-in-Some c =
    λ cells x e.
    let a = c.args in
    let w = rw c.in-Some.is at e in
    did_as (λ g q starts lens t₀ i₀ s k. emit_some a.kind a.at s c.in-Some.c (λ z. omega (arith, w.1, z)) ∙ ap (λ (n : ℕ). emit_or a.kind n a.at s) (sym w.0)) (c.show.ensures cells _)

pub returns-in-None : goal.returns-in-None
returns-in-None c = λ cells x e. did_as (λ g q starts lens t₀ i₀ s k. emit_none _ _ s x (rw c.in-None.is at e)) (c.report_placeholder.ensures cells)
