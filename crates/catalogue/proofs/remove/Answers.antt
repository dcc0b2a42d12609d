-- `remove` meets its contract. Assumes nothing.
use mathlib.Core.Path.{◌≡◌, refl, sym, ◌∙◌}
use mathlib.Core.Bool.{true}
use Rattle.catalogue_form.specs.Form.{value, formed}
use Rattle.catalogue_changes.proofs.Stores.{long, few, rest_long}
use Rattle.catalogue.proofs.Answers.{holds, place_inside, removed_not, removed_absent, removed_is}
use native.Mathlib.Omega.{arith}
use Rattle.catalogue.proofs.remove.Goals as goal

pub returns-then-not-form : goal.returns-then-not-form
returns-then-not-form c =
    removed_not c.args.store.now c.args.number (sym c.form.ensures ∙ c.if-not-form.true)

pub number-n-requires : goal.number-n-requires
number-n-requires c =
    let f : formed c.args.store.now ≡ true = (sym c.form.ensures ∙ c.if-not-form.false) in
    let long-store = long c.args.store.now (value c.args.store.now) (holds c.args.store.now (value c.args.store.now) f refl) in
    omega (arith, long-store)

pub slice_bounds-position-count : goal.slice_bounds-position-count
slice_bounds-position-count c =
    let store = c.args.store.now in
    let n = c.number-n.result in
    let h = holds store n (sym c.form.ensures ∙ c.if-not-form.false) c.number-n.ensures in
    omega (arith, long store n h)

pub slice_bounds-position-start : goal.slice_bounds-position-start
slice_bounds-position-start c =
    let store = c.args.store.now in
    let n = c.number-n.result in
    let h = holds store n (sym c.form.ensures ∙ c.if-not-form.false) c.number-n.ensures in
    omega (arith, long store n h)

pub position-at-requires : goal.position-at-requires
position-at-requires c =
    let store = c.args.store.now in
    let n = c.number-n.result in
    let h = holds store n (sym c.form.ensures ∙ c.if-not-form.false) c.number-n.ensures in
    record { n_bound = few store n h; n_in_bounds = omega (arith, rest_long store n h, few store n h) }

pub slice_bounds-stands-count : goal.slice_bounds-stands-count
slice_bounds-stands-count c =
    let store = c.args.store.now in
    let n = c.number-n.result in
    let h = holds store n (sym c.form.ensures ∙ c.if-not-form.false) c.number-n.ensures in
    omega (arith, long store n h)

pub slice_bounds-stands-start : goal.slice_bounds-stands-start
slice_bounds-stands-start c =
    let store = c.args.store.now in
    let n = c.number-n.result in
    let h = holds store n (sym c.form.ensures ∙ c.if-not-form.false) c.number-n.ensures in
    omega (arith, long store n h)

pub stands-requires : goal.stands-requires
stands-requires c =
    let store = c.args.store.now in
    let n = c.number-n.result in
    let h = holds store n (sym c.form.ensures ∙ c.if-not-form.false) c.number-n.ensures in
    record { n_bound = few store n h; n_in_bounds = omega (arith, rest_long store n h, few store n h) }

pub returns-then-not-stands : goal.returns-then-not-stands
returns-then-not-stands c =
    let a = c.args in
    let store = a.store.now in
    let n = c.number-n.result in
    let h = holds store n (sym c.form.ensures ∙ c.if-not-form.false) c.number-n.ensures in
    removed_absent store n h a.number c.position-at.result c.position-at.ensures c.stands.result c.stands.ensures c.if-not-stands.true

pub delete-requires : goal.delete-requires
delete-requires c =
    let a = c.args in
    let store = a.store.now in
    let n = c.number-n.result in
    let h = holds store n (sym c.form.ensures ∙ c.if-not-form.false) c.number-n.ensures in record {
      holds = h;
      at_lt_n = place_inside store n h a.number c.position-at.result c.position-at.ensures c.stands.result c.stands.ensures
          c.if-not-stands.false;
    }

pub returns : goal.returns
returns c =
    let a = c.args in
    let store = a.store.now in
    let n = c.number-n.result in
    let h = holds store n (sym c.form.ensures ∙ c.if-not-form.false) c.number-n.ensures in
    removed_is store n h a.number c.position-at.result c.position-at.ensures c.stands.result c.stands.ensures
    c.if-not-stands.false c.delete.ensures
