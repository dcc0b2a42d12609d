-- `insert` meets its contract. Assumes nothing.
use Prim.Native.Nat.{ℕ, ◌+◌, ◌-◌, ◌*◌, ◌≤◌}
use mathlib.Core.Path.{sym, ap, ap₂, ◌∙◌}
use mathlib.Core.List.{List, ◌++◌}
use lib.ListN.{length}
use Rattle.catalogue_form.specs.Form.{Entry}
use Rattle.catalogue_form.proofs.Places.{length_place}
use Rattle.catalogue_changes.proofs.Stores.{long, few, rest_long, given_long, given_front, given_rest, rest, count_low, one_low, inserted}
use Rattle.catalogue_places.specs.Promises.{opened}
use Rattle.std.specs.Int.{from_bool}
use Rattle.catalogue_changes.proofs.Keys.{one_of}
use Rattle.catalogue_distinct.specs.Distinct.{among}
use Rattle.catalogue_form.specs.Form.{keys, entries_of}
use native.Mathlib.Omega.{arith}
use Rattle.catalogue_changes.proofs.insert.Goals as goal

pub absent-requires : goal.absent-requires
absent-requires c =
    let h = c.requires.holds in
    record { n_bound = few c.args.store.now c.args.n h; n_in_bounds = omega (arith, rest_long c.args.store.now c.args.n h, few c.args.store.now c.args.n h) }

pub overflow_add-distinct : goal.overflow_add-distinct
overflow_add-distinct c =
    let a = c.args in
    let store = a.store.now in
    let one = c.from.ensures ∙ (ap from_bool c.absent.ensures ∙ one_of (among a.key.now (keys (entries_of a.n (rest store a.n c.requires.holds))))) in
    omega (arith, c.number.ensures, one, count_low store a.n c.requires.holds, one_low store a.n c.requires.holds a.key.now)

pub make_room-requires : goal.make_room-requires
make_room-requires c =
    let a = c.args in
    let h = c.requires.holds in record {
      carried_len = ap length c.write.ensures
          ∙ length_place (record { number = a.number; key = a.key.now });
      n_in_bounds = omega (arith, rest_long a.store.now a.n h, c.requires.n_bound, c.requires.at_le_n);
    }

pub slice_bounds-counts-end : goal.slice_bounds-counts-end
slice_bounds-counts-end c =
    let store = c.args.store.now in
    let h : 8 ≤ length store = omega (arith, long store c.args.n c.requires.holds) in
    given_long store c.make_room.new.places h

pub slice_bounds-counts-end-2 : goal.slice_bounds-counts-end-2
slice_bounds-counts-end-2 c =
    let store = c.args.store.now in
    let h : 8 ≤ length store = omega (arith, long store c.args.n c.requires.holds) in
    sym (given_front store c.make_room.new.places h)

pub counts-requires : goal.counts-requires
counts-requires c =
    let store = c.args.store.now in
    let h : 8 ≤ length store = omega (arith, long store c.args.n c.requires.holds) in
    given_front store c.make_room.new.places h

pub returns : goal.returns
returns c =
    let a = c.args in
    let store = a.store.now in
    let e : Entry = record { number = a.number; key = a.key.now } in
    let h : 8 ≤ length store = omega (arith, long store a.n c.requires.holds) in
    let room = ap (λ (l : List ℕ). opened (rest store a.n c.requires.holds) (a.at * 260) (a.n - a.at + 1) l) c.write.ensures in
    ap (λ (r : List ℕ). c.counts.new.front ++ r) (given_rest store c.make_room.new.places h)
    ∙ inserted store a.n c.requires.holds a.at e c.requires.n_bound c.requires.at_le_n c.counts.ensures
    (ap₂ (λ (x y : ℕ). x + y) c.number.ensures (c.from.ensures ∙ (ap from_bool c.absent.ensures ∙ one_of _)))
    (c.make_room.ensures ∙ room)
