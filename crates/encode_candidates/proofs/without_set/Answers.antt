-- `encode_candidates::without_set` meets its contract. Assumes nothing.
use mathlib.Core.Path.{refl}
use Rattle.encode_candidates.specs.Packed.{cand, cand_of}
use Rattle.encode_candidates.proofs.without_set.Goals as goal

pub returns : goal.returns
unfolding cand cand_of
returns c = refl
