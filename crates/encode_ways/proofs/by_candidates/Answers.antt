-- `encode_ways::by_candidates` meets its contract: pushes the nodes that a node reaches by each of the candidates.
use mathlib.Core.Path.{refl, sym, ap, ◌∙◌, subst}
use mathlib.Core.List.{[]}
use Prim.Native.Nat.{ℕ, suc, ◌+◌, ◌*◌, ◌/◌, ◌<◌}
use native.Mathlib.Decide.{dec_lt}
use native.Mathlib.Omega.{arith}
use lib.ListN.{length, get_or, take, drop, replicate}
use Rattle.coding.specs.Candidates.{either, Cand, plain, code_length}
use Rattle.coding.specs.Search.{push_all, by_cand, by_cands}
use Rattle.encode_states.specs.Packed.{unpack}
use Rattle.encode_layer.specs.Layer.{bounds}
use Rattle.encode_candidates.specs.declared.candidate.Candidate.{Candidate}
use Rattle.encode_candidates.specs.Packed.{size_of, cand}
use Rattle.encode_ways.specs.Turn.{Matches}
use Rattle.encode_ways.proofs.Choosing.{any, any_matches, any_at_lem}
use Rattle.encode_ways.proofs.Trying.{changes_as, no_change, then, one_more, none_yet, all_of, at_link, place_link}
use Rattle.encode_ways.proofs.by_candidates.Goals as goal

pub loop-k-init : goal.loop-k-init
loop-k-init c = (
  refl,
  λ cs most n m i h. changes_as (λ l. l) _ (none_yet n c.args.entry.link cs)
      (no_change cs (bounds c.args.part.from c.args.part.cap c.args.part.buckets most) c.args.store.now
      c.args.count),
)

pub loop-k-preserved : goal.loop-k-preserved
loop-k-preserved c =
    let a = c.args in
    let k = c.loop-k.k in
    let x = c.index-candidates-k.result in
    let d = dec_lt x.set 6 in
    let o : Cand = any x.set (size_of x.size) (code_length (cand x)) d in
    let j : ℕ = (a.entry.link + k * 131072) / 131072 in
    let q = c.by_candidate-c.ensures (replicate (suc j) o) o [] (a.entry.cost + 9)
    (record { state = unpack a.entry.state; cost = a.entry.cost; prev = 0; bytes = [] })
    (any_at_lem o j) (any_matches x.set (size_of x.size) (code_length (cand x)) d) (record { state = refl; costs = refl })
    (omega arith) in (
      q.before ∙ c.loop-k.invariant.0,
      λ cs most n m i h.
          let lt : k < length cs = omega (arith, m.many) in
          changes_as _ _ (λ l. ap (λ (j : ℕ). push_all (by_cands n a.entry.link l (take k cs)) (by_cand n j (get_or cs k (plain 0 either))))
          (place_link a.entry.link k c.requires.3) ∙ one_more n a.entry.link cs k lt l)
          (then _ _ (c.loop-k.invariant.1 cs most n m i h) (c.by_candidate-c.ensures cs (get_or cs k (plain 0 either)) (drop (suc k) cs) most n
          (at_link cs a.entry.link k c.requires.3 lt)
          (subst (λ (y : Candidate). Matches y.set (size_of y.size) (code_length (cand y)) (get_or cs k (plain 0 either)))
          (sym c.index-candidates-k.is) (m.each k x (omega arith))) i h)),
    )

pub returns : goal.returns
returns c = record {
  kept = c.loop-k.invariant.0;
  reached = λ cs most n m i h. changes_as _ _ (all_of n c.args.entry.link cs c.loop-k.k (omega (arith, m.many)))
      (c.loop-k.invariant.1 cs most n m i h);
}
