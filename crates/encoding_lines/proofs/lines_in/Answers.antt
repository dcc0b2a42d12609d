-- `lines_in` meets its contract: each way out prints the lines of the definition at the test that led there. Assumes nothing.
use Prim.Native.Nat.{ℕ, ◌≤◌}
use mathlib.Core.Path.{◌≡◌, refl, sym, ◌∙◌}
use mathlib.Core.List.{List}
use native.Mathlib.Omega.{arith}
use lib.ListN.{length, replicate, length-replicate}
use lib.Seq.{length-take-le}
use Rattle.questions.proofs.Refusals.{some_number}
use Rattle.encode.specs.Answers.{Answer, number_of, length_of, gap_of, lent, Answered}
use Rattle.ascii.proofs.Writing.{printed_as, printed_refused}
use Rattle.encoding_lines.proofs.Outcomes.{answered_as, lines_refused, lines_coded, Few, few_counts}
use Rattle.encoding_lines.proofs.lines_in.Goals as goal

-- length and gap are within the buffer
few : (cells text store : List ℕ) {a : Answer} {s b : List ℕ} {z n g : ℕ} → length store ≡ 1048576 → Answered (lent cells 0 0 text store (replicate 65529 0)) a s b →
    z ≡ number_of a → z ≤ 0 → n ≡ length_of a → g ≡ gap_of a → Few n g
few cells text store h v = few_counts cells text (answered_as cells text store h v)

pub returns-in-Err : goal.returns-in-Err
returns-in-Err c =
    let answered = answered_as _ _ c.args.store.now c.requires c.in-Err.ensures in
    let lines = lines_refused _ _ answered c.number.ensures (omega (arith, c.number.ensures, some_number c.in-Err.refusal)) c.place.ensures in
    printed_refused _ (omega arith) lines c.refused.ensures.put c.refused.ensures.upper_bound

pub slice_bounds-coding-end : goal.slice_bounds-coding-end
slice_bounds-coding-end c =
    let w = few _ _ c.args.store.now {z = 0} c.requires c.in-Ok.ensures refl (omega arith) refl refl in
    omega (arith, w.length, c.encode_with.auto.coding ∙ length-replicate {A = ℕ} 65529 0)

pub slice_bounds-coded-end : goal.slice_bounds-coded-end
slice_bounds-coded-end c =
    let w = few _ _ c.args.store.now {z = 0} c.requires c.in-Ok.ensures refl (omega arith) refl refl in
    sym (length-take-le _ _ (omega (arith, w.length, c.encode_with.auto.coding ∙ length-replicate {A = ℕ} 65529 0)))

pub coded-requires : goal.coded-requires
coded-requires c =
    let w = few _ _ c.args.store.now {z = 0} c.requires c.in-Ok.ensures refl (omega arith) refl refl in
    let t = length-take-le c.in-Ok.found.length c.encode_with.new.coding (omega (arith, w.length, c.encode_with.auto.coding ∙ length-replicate {A = ℕ} 65529 0)) in
    (w.length, w.gap, omega (arith, w.length, t))

pub returns-in-Ok : goal.returns-in-Ok
returns-in-Ok c =
    let answered = answered_as _ _ c.args.store.now c.requires c.in-Ok.ensures in
    printed_as (lines_coded _ _ answered {z = 0} refl (omega arith) refl refl) c.coded.ensures
