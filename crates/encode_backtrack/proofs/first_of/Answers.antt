-- `encode_backtrack::first_of` meets its contract: the loop's invariant: no node before the i-th has the cost. Assumes nothing.
use mathlib.Core.Path.{◌≡◌, sym, ap, ◌∙◌}
use native.Mathlib.Nat.{zero-add}
use native.Mathlib.Omega.{arith}
use Rattle.coding.specs.Search.{Node}
use Rattle.encode_layer.specs.Entries.{node_of}
use Rattle.encode_backtrack.proofs.Nodes.{length_layer, at_layer, passed_on, passed_here, passed_all}
use Rattle.encode_backtrack.proofs.first_of.Goals as goal

pub loop-i-init : goal.loop-i-init
loop-i-init c = λ cs. sym (zero-add _)

pub returns-then-store-from : goal.returns-then-store-from
unfolding node_of
returns-then-store-from c =
    λ cs. passed_here _ _ c.loop-i.i (omega (arith, length_layer c.args.store.now c.args.from c.args.count c.requires cs))
    (ap (λ (n : Node). n.cost) (at_layer c.args.store.now c.args.from c.args.count c.requires cs c.loop-i.i
    c.loop-i-test.true) ∙ c.if-store-from.true) (c.loop-i.invariant cs)

pub loop-i-preserved : goal.loop-i-preserved
unfolding node_of
loop-i-preserved c =
    λ cs. passed_on _ _ c.loop-i.i (omega (arith, length_layer c.args.store.now c.args.from c.args.count c.requires cs))
    (λ e. c.if-store-from.false (sym (ap (λ (n : Node). n.cost) (at_layer c.args.store.now c.args.from c.args.count c.requires cs
    c.loop-i.i c.loop-i-test.true)) ∙ e)) (c.loop-i.invariant cs)

pub returns : goal.returns
returns c =
    λ cs.
    let e : c.loop-i.i ≡ c.args.count = omega arith in
    rw e at (passed_all _ _ c.loop-i.i (omega (arith, length_layer c.args.store.now c.args.from c.args.count c.requires cs)) (c.loop-i.invariant cs))
