-- `set`: the questions in order. Assumes nothing.
use mathlib.Core.Path.{◌≡◌, refl, sym, ◌∙◌}
use mathlib.Core.Bool.{false}
use native.Mathlib.Omega.{arith}
use borrow.Author.Rules.{rules}
use Rattle.std.specs.Prelude.{Err}
use Rattle.reading.specs.State.{given}
use Rattle.reading.specs.Between.{before}
use Rattle.reading.specs.WithoutBuffers.{lent, refusal}
use Rattle.laws_between.proofs.Between.{between_within}
use Rattle.questions.specs.declared.refusal.Refusal.TheVariants.{BookmarkMismatch, BookmarkPlace}
use Rattle.bookmark.specs.Promises.{setting}
use Rattle.bookmark.proofs.Refusals.{set_questioned, set_name, set_place, set_refused, place_fails}
use Rattle.bookmark.proofs.set.Goals as goal

pub returns-in_err-first : goal.returns-in_err-first
unfolding refusal
returns-in_err-first c =
    let a = c.args in
    let e = c.in_err-first.field-0.0 in
    let is : c.from_residual.result ≡ Err e = search rules in
    set_questioned (setting (lent a.cells.now a.initial a.width a.input.now) a.place a.name a.store.now) e c.in_err-first.ensures.number c.in_err-first.ensures.place is refl

pub returns-then-not-name_holds : goal.returns-then-not-name_holds
unfolding refusal
returns-then-not-name_holds c =
    let a = c.args in
    let lends = setting (lent a.cells.now a.initial a.width a.input.now) a.place a.name a.store.now in
    let z : refusal lends.lent ≡ 0 = sym c.in_ok-first.ensures.number in
    set_refused lends BookmarkMismatch (set_name lends z (sym c.name_holds.ensures ∙ c.if-not-name_holds.true)) refl refl refl

pub returns-then-place-input : goal.returns-then-place-input
unfolding refusal
returns-then-place-input c =
    let a = c.args in
    let lends = setting (lent a.cells.now a.initial a.width a.input.now) a.place a.name a.store.now in
    let z : refusal lends.lent ≡ 0 = sym c.in_ok-first.ensures.number in
    let within = between_within (given a.cells.now a.width a.input.now) a.initial a.place in
    let fails = place_fails (before (given a.cells.now a.width a.input.now) a.initial a.place) a.place (λ p. omega (arith, within, p.0, c.if-place-input.true)) in
    set_refused lends BookmarkPlace (set_place lends z (sym c.name_holds.ensures ∙ c.if-not-name_holds.false) false fails) refl refl refl

pub set_checked-requires : goal.set_checked-requires
unfolding refusal
set_checked-requires c =
    record {
      input_value = sym c.in_ok-first.ensures.number;
      name_value = sym c.name_holds.ensures ∙ c.if-not-name_holds.false;
      place_in_bounds = c.if-place-input.false;
    }
