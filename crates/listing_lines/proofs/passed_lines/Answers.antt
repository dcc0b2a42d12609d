-- `passed_lines` meets its contract: each way out prints the lines of the definition at the test that led there. Assumes nothing.
use Prim.Native.Nat.{ℕ, ◌*◌}
use mathlib.Core.Path.{◌≡◌, refl, sym, ◌∙◌}
use mathlib.Core.List.{List}
use native.Mathlib.Omega.{arith}
use lib.ListN.{length, replicate, length-replicate}
use lib.Seq.{length-take-le}
use Rattle.ascii.proofs.Writing.{printed_as, printed_refused}
use Rattle.questions.specs.Questions.{first_refusal}
use Rattle.issues.specs.Issue.{numbers}
use Rattle.questions.proofs.Refusals.{some_number}
use Rattle.decode.specs.Answers.{Answer, text_of, issues_of, charged_of, lent, Answered}
use Rattle.listing_lines.proofs.Outcomes.{passes_more, answered_as, lines_refused, lines_decoded, Within, within}
use Rattle.listing_lines.proofs.passed_lines.Goals as goal

-- the counts are within their rooms
few : (cells input : List ℕ) {a : Answer} {t i : List ℕ} {n k g : ℕ} → first_refusal cells 0 0 4096 (length input) ≡ 0 →
    Answered (lent cells 0 0 input (replicate 65536 0) (replicate (256 * numbers) 0)) a t i → n ≡ text_of a → k ≡ issues_of a → g ≡ charged_of a → Within n k g
few cells input e v = within cells input e (answered_as cells input v)

pub decode_checked-requires : goal.decode_checked-requires
decode_checked-requires c =
    passes_more c.args.cells.now c.args.input.now c.requires

pub returns-in-Err : goal.returns-in-Err
returns-in-Err c =
    let lines = lines_refused _ _ c.requires (answered_as _ _ c.in-Err.ensures) c.number.ensures (omega (arith, c.number.ensures, some_number c.in-Err.refusal)) in
    printed_refused _ (omega arith) lines c.refused.ensures.put c.refused.ensures.upper_bound

pub slice_bounds-text-end : goal.slice_bounds-text-end
slice_bounds-text-end c =
    let w = few _ _ c.requires c.in-Ok.ensures refl refl refl in
    omega (arith, w.text, c.decode_checked.auto.text ∙ length-replicate {A = ℕ} 65536 0)

pub slice_bounds-decoded-end : goal.slice_bounds-decoded-end
slice_bounds-decoded-end c =
    let w = few _ _ c.requires c.in-Ok.ensures refl refl refl in
    sym (length-take-le _ _ (omega (arith, w.text, c.decode_checked.auto.text ∙ length-replicate {A = ℕ} 65536 0)))

pub decoded-requires : goal.decoded-requires
decoded-requires c =
    let a = c.decode_checked in
    let w = few _ _ c.requires c.in-Ok.ensures refl refl refl in
    let t = length-take-le c.in-Ok.counts.text a.new.text (omega (arith, w.text, a.auto.text ∙ length-replicate {A = ℕ} 65536 0)) in
    (w.text, w.issues, w.charge, omega (arith, w.text, t), omega (arith, w.issues, a.auto.issues ∙ length-replicate {A = ℕ} (256 * numbers) 0))

pub returns-in-Ok : goal.returns-in-Ok
returns-in-Ok c =
    let answered = answered_as _ _ c.in-Ok.ensures in
    printed_as (lines_decoded _ _ c.requires answered {z = 0} refl (omega arith) refl refl refl) c.decoded.ensures
