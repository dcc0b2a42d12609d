-- `read_on`: the state that the numbers say, all steps from there, and the answer. Assumes nothing.
use Prim.Native.Nat.{◌+◌, ◌≤◌}
use mathlib.Core.Path.{refl, ap, ◌∙◌}
use native.Mathlib.Omega.{arith}
use lib.ListN.{length}
use lib.Seq.{length-sets}
use Rattle.base.proofs.Every.{all_map}
use Rattle.utf8.specs.Utf8.{utf8s}
use Rattle.issues.specs.Issue.{Issue, issues_numbers}
use Rattle.reading.specs.State.{given}
use Rattle.reading.specs.Between.{rest}
use Rattle.bookmark_form.specs.Numbers.{place_of, text_length, state_of}
use Rattle.bookmark_form.proofs.Resumes.{counts_known, resumable_known}
use Rattle.bookmark.specs.Bookmark.{resumed}
use Rattle.bookmark.proofs.Resuming.{answers_unfit, counted_moved, small_positions, rest_positions}
use Rattle.bookmark.proofs.read_on.Goals as goal

pub overflow_cast-l : goal.overflow_cast-l
overflow_cast-l c =
    omega (arith, (counts_known _ _ (resumable_known _ _ c.requires.l_value).1).0, c.requires.input_len_bound.0)

pub rest-counts-requires : goal.rest-counts-requires
rest-counts-requires c =
    let w = c.decoder-d.ensures in
    let n = counts_known c.args.input.now c.args.l.now (resumable_known c.args.input.now c.args.l.now c.requires.l_value).1 in
    record { from_in_bounds = n.0; outside = w.outside; enough_value = (w.unbounded, w.none, w.short) }

pub returns-then-counts-issues : goal.returns-then-counts-issues
unfolding resumed
returns-then-counts-issues c =
    let a = c.args in
    let l = a.l.now in
    let g = given a.cells.now a.width a.input.now in
    let counted = c.rest-counts.ensures.counted g refl refl _ _ (state_of l) (c.decoder-d.ensures.holds a.cells.now a.issues.now) in
    answers_unfit (text_length l) counted (omega (arith, c.if-counts-issues.true)) (c.finish.ensures _ _ _ counted)

pub bounds-l-285 : goal.bounds-l-285
bounds-l-285 c =
    omega (arith, c.requires.input_len_bound.1)

pub shift-requires : goal.shift-requires
shift-requires c =
    let a = c.args in
    let l = a.l.now in
    let g = given a.cells.now a.width a.input.now in
    let v = c.rest-counts.ensures in
    let counted = v.counted g refl refl _ _ (state_of l) (c.decoder-d.ensures.holds a.cells.now a.issues.now) in
    let n = counts_known a.input.now l (resumable_known a.input.now l c.requires.l_value).1 in
    let t = (rest g (place_of l) (state_of l)).out in
    let small =
    all_map (λ (x : Issue). x.position ≤ length (utf8s t.text)) (λ (x : Issue). text_length l + x.position ≤ 0xFFFFFFFF) t.issues
    (λ x p. omega (arith, p, counted.text, v.short, n.4)) (rest_positions g l) in
    let long = ap length counted.listed ∙ length-sets a.issues.now 0 (issues_numbers t.issues) in
    record { n_bound = (omega (arith, v.few), omega (arith, c.if-counts-issues.false)); by_index = small_positions (text_length l) counted (omega (arith, c.if-counts-issues.false, long)) small }

pub returns : goal.returns
unfolding resumed
returns c =
    let a = c.args in
    let l = a.l.now in
    let g = given a.cells.now a.width a.input.now in
    let counted = c.rest-counts.ensures.counted g refl refl _ _ (state_of l) (c.decoder-d.ensures.holds a.cells.now a.issues.now) in
    let long = ap length counted.listed ∙ length-sets a.issues.now 0 (issues_numbers (rest g (place_of l) (state_of l)).out.issues) in
    c.finish-2.ensures _ _ _ (counted_moved (text_length l) counted (omega (arith, c.if-counts-issues.false, long)) c.shift.ensures)
