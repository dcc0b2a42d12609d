-- `enter` meets its contract. Assumes nothing.
use mathlib.Core.Path.{◌≡◌, refl, sym}
use mathlib.Core.Bool.{true}
use Rattle.catalogue_form.specs.Form.{value, formed}
use Rattle.catalogue_changes.proofs.Stores.{long, few, rest_long}
use lib.Seq.{length-take-le}
use Rattle.catalogue.proofs.Calls.{passes}
use Rattle.catalogue.proofs.Answers.{holds, place_low, enter_refused, enter_done}
use native.Mathlib.Omega.{arith}
use Rattle.catalogue.proofs.enter.Goals as goal

pub number-n-requires : goal.number-n-requires
number-n-requires c =
    let f : formed c.args.store.now ≡ true = c.requires.store_value in
    let long-store = long c.args.store.now (value c.args.store.now) (holds c.args.store.now (value c.args.store.now) f refl) in
    omega (arith, long-store)

pub slice_bounds-position-count : goal.slice_bounds-position-count
slice_bounds-position-count c =
    let store = c.args.store.now in
    let n = c.number-n.result in
    let h = holds store n c.requires.store_value c.number-n.ensures in
    omega (arith, long store n h)

pub slice_bounds-position-start : goal.slice_bounds-position-start
slice_bounds-position-start c =
    let store = c.args.store.now in
    let n = c.number-n.result in
    let h = holds store n c.requires.store_value c.number-n.ensures in
    omega (arith, long store n h)

pub position-at-requires : goal.position-at-requires
position-at-requires c =
    let store = c.args.store.now in
    let n = c.number-n.result in
    let h = holds store n c.requires.store_value c.number-n.ensures in
    record { n_bound = few store n h; n_in_bounds = omega (arith, rest_long store n h, few store n h) }

pub slice_bounds-stands-count : goal.slice_bounds-stands-count
slice_bounds-stands-count c =
    let store = c.args.store.now in
    let n = c.number-n.result in
    let h = holds store n c.requires.store_value c.number-n.ensures in
    omega (arith, long store n h)

pub slice_bounds-stands-start : goal.slice_bounds-stands-start
slice_bounds-stands-start c =
    let store = c.args.store.now in
    let n = c.number-n.result in
    let h = holds store n c.requires.store_value c.number-n.ensures in
    omega (arith, long store n h)

pub stands-present-requires : goal.stands-present-requires
stands-present-requires c =
    let store = c.args.store.now in
    let n = c.number-n.result in
    let h = holds store n c.requires.store_value c.number-n.ensures in
    record { n_bound = few store n h; n_in_bounds = omega (arith, rest_long store n h, few store n h) }

pub returns-in-Err : goal.returns-in-Err
returns-in-Err c =
    let a = c.args in
    let store = a.store.now in
    let n = c.number-n.result in
    let h = holds store n c.requires.store_value c.number-n.ensures in
    enter_refused store n h a.number c.position-at.result c.position-at.ensures c.stands-present.result c.stands-present.ensures
    a.keyed a.key.now c.requires.len_in_bounds _ c.in-Err.ensures.number c.in-Err.ensures.place c.refuse.ensures.value c.refuse.ensures.key_after

pub slice_bounds-insert-end-in-Ok : goal.slice_bounds-insert-end-in-Ok
slice_bounds-insert-end-in-Ok c =
    sym (length-take-le c.args.keyed.len c.args.key.now c.requires.len_in_bounds)

pub insert-requires : goal.insert-requires
insert-requires c =
    let a = c.args in
    let store = a.store.now in
    let n = c.number-n.result in
    let h = holds store n c.requires.store_value c.number-n.ensures in
    let passed = passes c.stands-present.result a.keyed.len n (sym c.in-Ok.ensures.number) in
    record {
      holds = h;
      n_bound = passed.1.1;
      at_le_n = place_low store n h a.number c.position-at.result c.position-at.ensures;
      key_len_bound = omega (arith, passed.1.0, length-take-le a.keyed.len a.key.now c.requires.len_in_bounds);
    }

pub returns-in-Ok : goal.returns-in-Ok
returns-in-Ok c =
    let a = c.args in
    let store = a.store.now in
    let n = c.number-n.result in
    let h = holds store n c.requires.store_value c.number-n.ensures in
    enter_done store n h a.number c.position-at.result c.position-at.ensures c.stands-present.result c.stands-present.ensures
    a.keyed a.key.now c.requires.len_in_bounds c.in-Ok.ensures.number c.insert.ensures
