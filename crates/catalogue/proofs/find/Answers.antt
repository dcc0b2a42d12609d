-- `find` meets its contract. Assumes nothing.
use mathlib.Core.Path.{◌≡◌, refl, sym, ◌∙◌}
use mathlib.Core.Bool.{true}
use Rattle.catalogue_form.specs.Form.{value, formed}
use Rattle.catalogue_changes.proofs.Stores.{long, few, rest_long}
use Rattle.catalogue.proofs.Answers.{holds, found_not, found_is}
use native.Mathlib.Omega.{arith}
use Rattle.catalogue.proofs.find.Goals as goal

pub returns-then-not-form : goal.returns-then-not-form
returns-then-not-form c =
    found_not c.args.store.now c.args.key.now (sym c.form.ensures ∙ c.if-not-form.true)

pub number-n-requires : goal.number-n-requires
number-n-requires c =
    let f : formed c.args.store.now ≡ true = (sym c.form.ensures ∙ c.if-not-form.false) in
    let long-store = long c.args.store.now (value c.args.store.now) (holds c.args.store.now (value c.args.store.now) f refl) in
    omega (arith, long-store)

pub slice_bounds-having-count : goal.slice_bounds-having-count
slice_bounds-having-count c =
    let store = c.args.store.now in
    let n = c.number-n.result in
    let h = holds store n (sym c.form.ensures ∙ c.if-not-form.false) c.number-n.ensures in
    omega (arith, long store n h)

pub slice_bounds-having-start : goal.slice_bounds-having-start
slice_bounds-having-start c =
    let store = c.args.store.now in
    let n = c.number-n.result in
    let h = holds store n (sym c.form.ensures ∙ c.if-not-form.false) c.number-n.ensures in
    omega (arith, long store n h)

pub having-held-requires : goal.having-held-requires
having-held-requires c =
    let store = c.args.store.now in
    let n = c.number-n.result in
    let h = holds store n (sym c.form.ensures ∙ c.if-not-form.false) c.number-n.ensures in
    record { n_bound = few store n h; n_in_bounds = omega (arith, rest_long store n h, few store n h) }

pub returns : goal.returns
returns c =
    let store = c.args.store.now in
    let n = c.number-n.result in
    let h = holds store n (sym c.form.ensures ∙ c.if-not-form.false) c.number-n.ensures in
    found_is store n h c.args.key.now c.having-held.ensures.entries_value c.having-held.ensures.number_value
