-- `delete` meets its contract. Assumes nothing.
use Prim.Native.Nat.{ℕ, ◌-◌, ◌≤◌}
use mathlib.Core.Path.{sym, ap, ap₂, ◌∙◌}
use mathlib.Core.List.{List, ◌++◌}
use lib.ListN.{length}
use Rattle.catalogue_changes.proofs.Stores.{long, few, rest_long, given_long, given_front, given_rest, alone_low, deleted}
use Rattle.std.specs.Int.{from_bool}
use Rattle.catalogue_changes.proofs.Keys.{one_if}
use native.Mathlib.Omega.{arith}
use Rattle.catalogue_changes.proofs.delete.Goals as goal

pub alone-requires : goal.alone-requires
alone-requires c =
    let a = c.args in
    let h = c.requires.holds in
    record {
      n_bound = few a.store.now a.n h;
      at_lt_n = c.requires.at_lt_n;
      n_in_bounds = omega (arith, rest_long a.store.now a.n h, few a.store.now a.n h);
    }

pub overflow_sub-distinct : goal.overflow_sub-distinct
overflow_sub-distinct c =
    let one = c.from.ensures ∙ (ap from_bool c.alone.ensures ∙ one_if _) in
    omega (arith, c.number.ensures, one, alone_low c.args.store.now c.args.n c.requires.holds c.args.at c.requires.at_lt_n)

pub close_up-requires : goal.close_up-requires
close_up-requires c =
    let a = c.args in
    let h = c.requires.holds in
    record {
      n_bound = few a.store.now a.n h;
      at_lt_n = c.requires.at_lt_n;
      n_in_bounds = omega (arith, rest_long a.store.now a.n h, few a.store.now a.n h);
    }

pub slice_bounds-counts-end : goal.slice_bounds-counts-end
slice_bounds-counts-end c =
    let store = c.args.store.now in
    let h : 8 ≤ length store = omega (arith, long store c.args.n c.requires.holds) in
    given_long store c.close_up.new.places h

pub slice_bounds-counts-end-2 : goal.slice_bounds-counts-end-2
slice_bounds-counts-end-2 c =
    let store = c.args.store.now in
    let h : 8 ≤ length store = omega (arith, long store c.args.n c.requires.holds) in
    sym (given_front store c.close_up.new.places h)

pub overflow_cast-n : goal.overflow_cast-n
overflow_cast-n c =
    omega (arith, few c.args.store.now c.args.n c.requires.holds)

pub counts-requires : goal.counts-requires
counts-requires c =
    let store = c.args.store.now in
    let h : 8 ≤ length store = omega (arith, long store c.args.n c.requires.holds) in
    given_front store c.close_up.new.places h

pub returns : goal.returns
returns c =
    let a = c.args in
    let store = a.store.now in
    let h : 8 ≤ length store = omega (arith, long store a.n c.requires.holds) in
    ap (λ (r : List ℕ). c.counts.new.front ++ r) (given_rest store c.close_up.new.places h)
    ∙ deleted store a.n c.requires.holds a.at c.requires.at_lt_n c.counts.ensures
    (ap₂ (λ (x y : ℕ). x - y) c.number.ensures (c.from.ensures ∙ (ap from_bool c.alone.ensures ∙ one_if _))) c.close_up.ensures
