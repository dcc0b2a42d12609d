-- `char2` meets its contract. Assumes nothing.
use Prim.Native.Nat.{◌-◌}
use mathlib.Core.Path.{ap, ◌∙◌}
use Rattle.tables.proofs.Cases.{classed}
use Rattle.issues.specs.declared.IssueKind.{IssueKind}
use Rattle.reading.specs.Characters.{cell_or}
use Rattle.decode_codes.specs.Codes.{cell_at}
use Rattle.decode_codes.proofs.Laws.{char2_as}
use Rattle.decode_characters.proofs.Did.{did_as}
use Rattle.decode_graphic.proofs.char2.Goals as goal

pub cell_or-requires : goal.cell_or-requires
cell_or-requires c =
    record { may_take = c.requires.may_take; classed = classed c.cell_at-cell.result _ c.cell_at-cell.ensures }

pub returns : goal.returns
returns c =
    let a = c.args in
    let code = a.c in
    let x = cell_at a.cells.now code.set (code.a - 0x20) (code.b - 0x20) in
    let found = c.cell_at-cell.ensures in
    did_as
    (λ g q starts lens t₀ i₀ s k.
    ap (λ (kind : IssueKind). cell_or kind x a.at s) c.issue_of-kind.ensures ∙ char2_as code.set code.a code.b a.at s g q)
    (c.cell_or.ensures a.cells.now x found)
