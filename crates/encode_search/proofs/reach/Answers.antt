-- `encode_search::reach` meets its contract: the nodes of the layer before one by one. Assumes nothing.
use mathlib.Core.Path.{refl, ◌∙◌, subst}
use native.Mathlib.Omega.{arith}
use Rattle.encode_layer.specs.Entries.{node_of, layer_of}
use Rattle.encode_layer.specs.Layer.{bounds, Represents}
use Rattle.encode_layer.proofs.Pushing.{blank}
use Rattle.encode_layer.proofs.Costs.{length_layer}
use Rattle.encode_search.proofs.Reading.{sound_at, node_at, is_node, reach_more, reach_none, reach_all}
use Rattle.encode_search.proofs.reach.Goals as goal

pub loop-i-init : goal.loop-i-init
loop-i-init c =
    let a = c.args in (
      refl,
      λ cs cs₀ b most m x h. reach_none cs a.pcount a.cap a.buckets most a.store.now (layer_of cs₀ a.store.now 0 a.pcount),
    )

pub by_candidates-count-requires : goal.by_candidates-count-requires
by_candidates-count-requires c =
    let q = sound_at c.args.store.now c.loop-i.store c.args.pcount c.loop-i.i (omega arith) c.loop-i.auto.store c.loop-i.invariant.0
    (omega arith) 65535 c.requires.7 in
    (omega arith, q.proper, q.cheap, omega arith, c.requires.6)

pub loop-i-preserved : goal.loop-i-preserved
loop-i-preserved c =
    let a = c.args in
    let i = c.loop-i.i in
    let q = c.by_candidates-count.ensures in (
      q.kept ∙ c.loop-i.invariant.0,
      λ cs cs₀ b most m x h.
          let l = length_layer cs₀ a.store.now 0 a.pcount (omega arith) in
          let s = sound_at c.args.store.now c.loop-i.store c.args.pcount c.loop-i.i (omega arith) c.loop-i.auto.store c.loop-i.invariant.0
          (omega arith) b x in
          subst (Represents cs (bounds a.pcount a.cap a.buckets most) _ _) (reach_more cs (layer_of cs₀ a.store.now 0 a.pcount) i (node_of cs₀ blank) (omega arith))
          ((q.reached cs most (node_at c.args.store.now c.loop-i.store c.args.pcount c.loop-i.i (omega arith) c.loop-i.auto.store
          c.loop-i.invariant.0 (omega arith) cs₀) m
          (is_node c.args.store.now c.loop-i.store c.args.pcount c.loop-i.i (omega arith) c.loop-i.auto.store c.loop-i.invariant.0 (omega arith) cs₀)
          (omega (arith, s.cheap))).stands _ (c.loop-i.invariant.1 cs cs₀ b most m x h)),
    )

pub returns : goal.returns
returns c =
    let a = c.args in
    record {
      before = c.loop-i.invariant.0;
      stands = λ cs cs₀ b most m x h.
          let l = length_layer cs₀ a.store.now 0 a.pcount (omega arith) in
          subst (Represents cs (bounds a.pcount a.cap a.buckets most) _ _) (reach_all cs (layer_of cs₀ a.store.now 0 a.pcount) c.loop-i.i (omega arith))
          (c.loop-i.invariant.1 cs cs₀ b most m x h);
    }
