-- `encode_search::advance` meets its contract: the next layer is reached, and is too large, or kept behind the one before. Assumes nothing.
use native.Mathlib.Omega.{arith}
use Rattle.encode_layer.specs.Entries.{entries_of}
use Rattle.encode_search.proofs.Advancing.{sounder, too_many, least_small, still_cheap, advanced}
use Rattle.encode_search.proofs.advance.Goals as goal

pub reach-n-requires : goal.reach-n-requires
reach-n-requires c =
    let capped = c.room-cap.ensures in
    let b = c.buckets.ensures in
    let layer = entries_of c.args.store.now 0 c.args.at.count in
    (capped.inside, capped.few, omega arith, b.0, λ h. b.2 (omega arith), omega arith, c.requires.3, sounder 65526 65535 layer (omega arith) c.requires.5)

pub returns-then-cap-n : goal.returns-then-cap-n
returns-then-cap-n c =
    too_many c.args.store.now _ c.args.at.count c.room-cap.result c.buckets.result c.reach-n.result c.args.candidates.now
    c.reach-n.ensures c.room-cap.ensures (omega arith) c.requires.5 c.if-cap-n.true

pub overflow_add-most : goal.overflow_add-most
overflow_add-most c =
    omega (
      arith,
      least_small c.args.store.now _ c.args.at.count c.room-cap.result c.buckets.result c.reach-n.result c.args.candidates.now
          c.reach-n.ensures c.room-cap.ensures (omega arith) c.requires.5 c.if-cap-n.false c.least-most.result c.least-most.ensures,
    )

pub keep-left-requires : goal.keep-left-requires
keep-left-requires c = (
  omega (arith, c.room-cap.ensures.inside),
  c.requires.4,
  still_cheap c.args.store.now _ c.args.at.count c.room-cap.result c.buckets.result c.reach-n.result c.args.candidates.now
      c.reach-n.ensures c.room-cap.ensures (omega arith) c.requires.5 c.if-cap-n.false _ c.args.at.before c.squeeze.ensures,
)

pub returns : goal.returns
returns c =
    advanced c.args.store.now _ c.args.at.count c.room-cap.result c.buckets.result c.reach-n.result c.args.candidates.now
    c.reach-n.ensures c.room-cap.ensures (omega arith) c.requires.5
    c.if-cap-n.false _ _ c.args.at.before c.least-most.result c.args.at.rest c.args.at.floor c.keep-left.result.floor
    c.keep-left.result.count c.squeeze.ensures c.least-most.ensures c.keep-left.ensures.lowered c.keep-left.ensures.kept
