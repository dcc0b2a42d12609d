-- `encode_layer::keep` meets its contract: drops the nodes of the layer that cost over most, which lower the floor, the others moved down.
use mathlib.Core.Path.{◌≡◌, refl, ap, ◌∙◌}
use mathlib.Core.List.{List}
use Prim.Native.Nat.{ℕ, ◌+◌, ◌*◌, ◌≤◌, ◌<◌}
use native.Mathlib.Omega.{arith}
use lib.ListN.{length, get_or}
use Rattle.coding.specs.Search.{lower}
use Rattle.base.specs.Lists.{All}
use Rattle.encode_layer.specs.Entries.{set_entry, entries_of}
use Rattle.encode_layer.specs.declared.Entry.{Entry}
use Rattle.encode_layer.proofs.Costs.{floored_kept, floored_dropped, floored_end, cost_bound}
use Rattle.encode_layer.proofs.Keeping.{Going, going_start, same_cost, going_drop, going_keep, going_end}
use Rattle.encode_layer.proofs.keep.Goals as goal
use Rattle.encode_layer.proofs.keep.Goals.{then-entry-most, else-entry-most}

-- the cost of a dropped node is small
cost_small : (s₀ s : List ℕ) (from count most i w cost : ℕ) → (from + count) * 4 ≤ length s₀ → All (λ e. e.cost ≤ 65535) (entries_of s₀ from count) →
    Going s₀ s from count most i w → i < count → cost ≡ get_or s ((from + i) * 4 + 1) 0 → cost ≤ 65535
cost_small s₀ s from count most i w cost f a g h e =
    omega (arith, same_cost s₀ from count most f s i w g h, cost_bound s₀ from count f a i h)

pub loop-i-init : goal.loop-i-init
loop-i-init c =
    let a = c.args in
    (going_start a.store.now a.from a.count a.most c.requires.0, λ cs. refl)

pub overflow_add-entry : goal.overflow_add-entry
overflow_add-entry c =
    omega (
      arith,
      cost_small _ _ _ _ _ _ _ _ c.requires.0 c.requires.2 c.loop-i.invariant.0 (omega arith) (ap (λ (e : Entry). e.cost) c.node-entry.ensures),
    )

pub lower-f-requires : goal.lower-f-requires
lower-f-requires c =
    omega (
      arith,
      cost_small _ _ _ _ _ _ _ _ c.requires.0 c.requires.2 c.loop-i.invariant.0 (omega arith) (ap (λ (e : Entry). e.cost) c.node-entry.ensures),
    )

pub loop-i-preserved : goal.loop-i-preserved
loop-i-preserved c =
    let a = c.args in
    let at = c.loop-i in
    let cost = same_cost a.store.now a.from a.count a.most c.requires.0 at.store at.i at.kept at.invariant.0 (omega arith) in
    let e = ap (λ (e : Entry). e.cost) c.node-entry.ensures in
    elim c.if-entry-most.branch [
      | then-entry-most w ↦ (
        rw (w.store-is, w.kept-is)
            (going_keep a.store.now a.from a.count a.most c.requires.0 at.store at.i at.kept at.invariant.0 _ (omega arith) (omega (arith, e, w.if-entry-most.true))
            (w.put_node.ensures ∙ ap (set_entry at.store (a.from + at.kept * 4)) c.node-entry.ensures)),
        rw w.f-is
            (floored_kept a.store.now a.from a.count c.requires.0 a.most a.rest a.low at.f at.i at.invariant.1 (omega arith) (omega (arith, e, cost, w.if-entry-most.true))),
      )
      | else-entry-most w ↦ (
        rw (w.store-is, w.kept-is)
            (going_drop a.store.now a.from a.count a.most c.requires.0 at.store at.i at.kept at.invariant.0 (omega arith) (omega (arith, e, w.if-entry-most.false))),
        rw (w.f-is ∙ (w.lower-f.ensures ∙ ap (λ (x : ℕ). lower at.f (x + a.rest)) (e ∙ cost)))
            (floored_dropped a.store.now a.from a.count c.requires.0 a.most a.rest a.low at.f at.i at.invariant.1 (omega arith) (omega (arith, e, cost, w.if-entry-most.false))),
      )
    ]

pub shape_of-store : goal.shape_of-store
shape_of-store c = c.loop-i.invariant.0.same

pub returns : goal.returns
returns c =
    let a = c.args in
    let at = c.loop-i in
    record {
      kept = going_end a.store.now a.from a.count a.most c.requires.0 at.store at.i at.kept at.invariant.0 c.loop-i-test.false;
      lowered = floored_end a.store.now a.from a.count c.requires.0 a.most a.rest a.low at.f at.i at.invariant.1 c.loop-i-test.false;
    }
