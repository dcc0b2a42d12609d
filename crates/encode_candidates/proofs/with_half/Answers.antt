-- `encode_candidates::with_half` meets its contract. Assumes nothing.
use mathlib.Core.Path.{sym, ap}
use mathlib.Core.Bool.{Bool}
use Rattle.coding.specs.Candidates.{fullwidth}
use Rattle.encode_states.specs.Packed.{set_of}
use Rattle.encode_candidates.specs.Packed.{size_of}
use Rattle.encode_candidates.proofs.Adding.{likewise, none_more}
use Rattle.encode_candidates.proofs.with_half.Goals as goal

pub returns-then-not-annex : goal.returns-then-not-annex
unfolding fullwidth set_of size_of
returns-then-not-annex c = likewise c.with_code.ensures (ap (λ (a : Bool). fullwidth a c.args.c) (sym c.if-not-annex.true))

pub returns-else-not-annex : goal.returns-else-not-annex
unfolding fullwidth
returns-else-not-annex c = likewise (none_more _ 1) (ap (λ (a : Bool). fullwidth a c.args.c) (sym c.if-not-annex.false))
