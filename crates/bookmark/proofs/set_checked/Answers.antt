-- `set_checked`: the steps up to the place, 16, or the numbers of the state there. Assumes nothing.
use mathlib.Core.Path.{◌≡◌, refl, sym, ◌∙◌}
use mathlib.Core.Bool.{true, false}
use native.Mathlib.Omega.{arith}
use Rattle.reading.specs.State.{given}
use Rattle.reading.specs.Between.{before}
use Rattle.reading.specs.WithoutBuffers.{lent}
use Rattle.laws_between.proofs.Between.{between_sound}
use Rattle.decode_outer.proofs.Start.{outside_start}
use Rattle.bookmark_form.proofs.Places.{length_numbers}
use Rattle.questions.specs.declared.refusal.Refusal.TheVariants.{BookmarkPlace}
use Rattle.bookmark.specs.Promises.{setting}
use Rattle.bookmark.proofs.Refusals.{set_place, set_refused, set_accepted, place_fails, place_holds_lem, name_known}
use Rattle.bookmark.proofs.Reaching.{short_input, store_long, reaches, short_text, few_marks, many_marks, put_replaced}
use Rattle.bookmark.proofs.set_checked.Goals as goal

pub top-w-requires : goal.top-w-requires
top-w-requires c =
    record {
      from_in_bounds = (omega arith, c.requires.place_in_bounds);
      outside = outside_start c.args.input.now c.args.initial c.args.width 0xFFFFFFFF (short_input _ c.requires.input_value)
          c.start-start.ensures c.undefined-none.ensures;
    }

pub returns-then-w-place : goal.returns-then-w-place
returns-then-w-place c =
    let a = c.args in
    let lends = (setting (lent a.cells.now a.initial a.width a.input.now) a.place a.name a.store.now) in
    let w = reaches a.cells.now a.initial a.width a.input.now (short_input _ c.requires.input_value) c.start-start.ensures c.undefined-none.ensures c.top-w.ensures in
    set_refused lends BookmarkPlace (set_place lends c.requires.input_value c.requires.name_value false (place_fails _ _ (λ p. c.if-w-place.true (w.1 ∙ p.0)))) refl refl refl

pub returns-then-d-ge-SEVENTEEN_DIGITS : goal.returns-then-d-ge-SEVENTEEN_DIGITS
returns-then-d-ge-SEVENTEEN_DIGITS c =
    let a = c.args in
    let lends = (setting (lent a.cells.now a.initial a.width a.input.now) a.place a.name a.store.now) in
    let many = many_marks a.cells.now a.initial a.width a.input.now (short_input _ c.requires.input_value) c.start-start.ensures c.undefined-none.ensures
    c.top-w.ensures c.if-d-ge-SEVENTEEN_DIGITS.true in
    set_refused lends BookmarkPlace (set_place lends c.requires.input_value c.requires.name_value false (place_fails _ _ (λ p. many p.1))) refl refl refl

pub overflow_mul-name : goal.overflow_mul-name
overflow_mul-name c =
    omega (arith, (name_known _ _ c.requires.name_value).0)

pub overflow_cast-place : goal.overflow_cast-place
overflow_cast-place c =
    omega (arith, c.requires.place_in_bounds, short_input _ c.requires.input_value)

pub put-requires : goal.put-requires
put-requires c =
    let a = c.args in
    let n = name_known a.store.now a.name c.requires.name_value in (
      omega (arith, n.0, store_long a.store.now n.1),
      short_text a.cells.now a.initial a.width a.input.now (short_input _ c.requires.input_value) c.start-start.ensures
          c.undefined-none.ensures c.top-w.ensures,
    )

pub returns : goal.returns
returns c =
    let a = c.args in
    let lends = (setting (lent a.cells.now a.initial a.width a.input.now) a.place a.name a.store.now) in
    let g = given a.cells.now a.width a.input.now in
    let w = reaches a.cells.now a.initial a.width a.input.now (short_input _ c.requires.input_value) c.start-start.ensures c.undefined-none.ensures c.top-w.ensures in
    let few = few_marks a.cells.now a.initial a.width a.input.now (short_input _ c.requires.input_value) c.start-start.ensures c.undefined-none.ensures
    c.top-w.ensures c.if-d-ge-SEVENTEEN_DIGITS.false in
    let s = between_sound g a.initial a.place in
    let n = name_known a.store.now a.name c.requires.name_value in
    let at : (before g a.initial a.place).at ≡ a.place = sym w.1 ∙ c.if-w-place.false in
    let put = c.put.ensures g _ _ _ _ _ w.0 s.marks few in
    let l = length_numbers a.place (before g a.initial a.place).state s.four s.starts s.lens in
    set_accepted lends (set_place lends c.requires.input_value c.requires.name_value true (place_holds_lem _ _ at few)) (put_replaced a.name n.0 (store_long a.store.now n.1) l put)
