-- `encode_ways::by_candidate` meets its contract: pushes the nodes that a node reaches by a candidate, after its size control.
use mathlib.Core.Path.{◌≡◌, ◌∙◌, subst}
use mathlib.Core.List.{[], ◌∷◌}
use Prim.Native.Nat.{ℕ, ◌+◌, ◌*◌}
use native.Mathlib.Omega.{arith}
use Rattle.encode_layer.specs.Entries.{entry, node_of}
use Rattle.encode_layer.specs.Layer.{bounds, Pushes}
use Rattle.encode_candidates.specs.Packed.{size_of}
use Rattle.encode_candidates.proofs.Lengths.{few_length, plain_length}
use Rattle.encode_ways.proofs.Choosing.{few_bytes, as_plain, as_graphic}
use Rattle.encode_ways.proofs.by_candidate.Goals as goal

pub overflow_add-sized : goal.overflow_add-sized
overflow_add-sized c = omega (arith, c.control_length.ensures, few_bytes c.size_control-z.result)

pub overflow_add-sized-2 : goal.overflow_add-sized-2
overflow_add-sized-2 c =
    omega (arith, c.control_length.ensures, few_bytes c.size_control-z.result, c.length.ensures, few_length c.args.candidate)

pub by_ways-requires : goal.by_ways-requires
by_ways-requires c = (
  omega arith,
  c.sized.ensures.proper,
  record {
    cost_small = omega (arith, c.control_length.ensures, few_bytes c.size_control-z.result, c.length.ensures, few_length c.args.candidate);
    link_small = omega (arith, c.size_control-z.ensures.small);
  },
  c.if-candidate-lt6.true,
)

pub returns-then-candidate-lt6 : goal.returns-then-candidate-lt6
returns-then-candidate-lt6 c =
    let a = c.args in
    λ cs k ks most n at m i h.
    as_graphic cs ks n a.entry.state c.sized.result a.candidate.set (size_of a.candidate.size) c.length.result a.entry.cost a.entry.link
    c.size_control-z.result c.control_length.result c.requires.3 i c.size_control-z.ensures c.control_length.ensures
    c.sized.ensures.is k at (rw c.length.ensures m) c.if-candidate-lt6.true
    (λ t w. c.by_ways.ensures cs most t w
    (omega (arith, c.control_length.ensures, few_bytes c.size_control-z.result, c.length.ensures, few_length c.args.candidate)))

pub returns : goal.returns
returns c =
    let a = c.args in
    let one : c.length.result ≡ 1 = c.length.ensures ∙ plain_length a.candidate c.if-candidate-lt6.false in
    λ cs k ks most n at m i h.
    as_plain cs ks n a.entry.state c.sized.result a.candidate.set (size_of a.candidate.size) c.length.result a.entry.cost a.entry.link
    c.size_control-z.result c.control_length.result c.requires.3 i c.size_control-z.ensures c.control_length.ensures
    c.sized.ensures.is k at (rw c.length.ensures m) c.if-candidate-lt6.false
    (subst (λ (l : ℕ). Pushes cs (bounds a.part.from a.part.cap a.part.buckets most) a.store.now a.count c.push.new.store c.push.result
    (node_of cs (entry c.sized.result (a.entry.cost + c.control_length.result + l) (a.entry.link + c.size_control-z.result * 2097152)) ∷ [])) one
    (c.push.ensures cs most (omega (arith, c.control_length.ensures, few_bytes c.size_control-z.result))))
