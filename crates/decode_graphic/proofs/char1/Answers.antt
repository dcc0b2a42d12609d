-- `char1` meets its contract. Assumes nothing.
use Prim.Native.Nat.{ℕ, ◌≤◌, ◌<◌}
use mathlib.Core.Bool.{Bool, false}
use mathlib.Core.Logic.{⊎_elim}
use mathlib.Core.Path.{◌≡◌, sym, ap, ◌∙◌}
use native.Mathlib.Omega.{arith}
use Rattle.decode_characters.proofs.Did.{did_as}
use Rattle.std.specs.Prelude.{Option, Some, None, IfSome}
use Rattle.private_use.specs.PrivateUse.{is_private_use}
use Rattle.tables_onebyte.specs.OneByte.{OneByteReads}
use Rattle.reading.specs.Characters.{letter}
use Rattle.decode_codes.proofs.Laws.{char1_letter}
use Rattle.decode_codes.proofs.Letters.{letter_ordinary}
use Rattle.decode_graphic.proofs.Laws.{char1_mosaic, char1_drcs, letter_narrows}
use Rattle.decode_graphic.proofs.char1.Goals as goal

ordinary : (letter_lem : Option ℕ) (narrow : Bool) (z c : ℕ) → OneByteReads letter_lem (letter narrow z c) → IfSome letter_lem (λ l. is_private_use l ≡ false)
ordinary None narrow z c e = tt
ordinary (Some l) narrow z c e = ap is_private_use (sym e.0) ∙ letter_ordinary narrow z c

pub emit_or-requires : goal.emit_or-requires
emit_or-requires c =
    record { may_take = c.requires.may_take; c_value = ordinary _ _ _ _ c.letter_at-letter.ensures }

pub returns-in-4-to-7 : goal.returns-in-4-to-7
returns-in-4-to-7 c =
    let pre = c.requires in
    let report-mosaic = c.report_mosaic in
    λ cells left R. did_as (λ g q starts lens t₀ i₀ x k. char1_mosaic g left R _ _ _ x pre.c_bound.1 c.in-4-to-7.if-set-lt4-own.false (omega arith)) (report-mosaic.ensures cells _)

pub returns-in-17-to-255 : goal.returns-in-17-to-255
returns-in-17-to-255 c =
    let pre = c.requires in
    λ cells left R. did_as (λ g q starts lens t₀ i₀ x k. char1_drcs g left R _ _ _ x pre.c_bound.1 (omega arith)) (c.report_placeholder.ensures cells)

pub returns-in_default : goal.returns-in_default
returns-in_default c =
    let a = c.args in
    let if1 = c.in_default in
    let letter_at = c.letter_at-letter in
    let is_narrow_lem = c.is_narrow-narrow in
    let pre = c.requires in
    let emit_or_lem = c.emit_or in
    let z = a.set in
    let far : 4 ≤ z → 7 < z = λ h. ⊎_elim (λ w. omega arith) (λ w. omega arith) if1.branch-raw in
    let small : z < 17 = ⊎_elim (λ w. omega arith) (λ w. omega arith) if1.branch-raw in
    λ cells left R.
    did_as
    (λ g q starts lens t₀ i₀ x k. letter_narrows g x _ _ _ _ is_narrow_lem.ensures k ∙ char1_letter g left R _ _ _ x pre.c_bound.1 far small)
    (emit_or_lem.ensures cells _ letter_at.ensures)
