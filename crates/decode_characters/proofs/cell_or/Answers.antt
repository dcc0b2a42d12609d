-- `cell_or` meets its contract. Assumes nothing.
use mathlib.Core.Path.{◌≡◌}
use native.Mathlib.Omega.{arith}
use Rattle.tables.proofs.MarkLaws.{tested}
use Rattle.decode_characters.proofs.Did.{did_as, did_writes}
use Rattle.decode_characters.proofs.Laws.{cell_undefined, cell_mark, cell_char, cell_private}
use Rattle.decode_characters.proofs.cell_or.Goals as goal

pub returns-in-Char : goal.returns-in-Char
returns-in-Char c =
    λ cells x e.
    did_as (λ g q starts lens t₀ i₀ s k. cell_mark _ _ s x _ (rw c.in-Char.is at e) (tested _ c.is_non_spacing.ensures c.if-is_non_spacing.true))
    (did_writes cells (omega arith) (omega arith) c.requires.may_take (c.mark.ensures _))

pub returns-in-Char-2 : goal.returns-in-Char-2
returns-in-Char-2 c =
    let same : c.in-Char.c ≡ c.in-Char-2.c = cc (c.in-Char.is, c.in-Char-2.is) in
    let plain = rw same at (tested _ c.is_non_spacing.ensures c.if-is_non_spacing.false) in
    λ cells x e. did_as (λ g q starts lens t₀ i₀ s k. cell_char _ _ s x _ (rw c.in-Char-2.is at e) plain) (c.show.ensures cells _)

pub returns-in-PrivateUse : goal.returns-in-PrivateUse
returns-in-PrivateUse c =
    λ cells x e.
    did_as (λ g q starts lens t₀ i₀ s k. cell_private _ _ s x _ (rw c.in-PrivateUse.is at e))
    (did_writes cells (omega arith) (omega arith) c.requires.may_take (c.emit_private_use.ensures _))

pub returns-in-Undefined : goal.returns-in-Undefined
returns-in-Undefined c =
    λ cells x e. did_as (λ g q starts lens t₀ i₀ s k. cell_undefined _ _ s x (rw c.in-Undefined.is at e)) (c.report_placeholder.ensures cells)
