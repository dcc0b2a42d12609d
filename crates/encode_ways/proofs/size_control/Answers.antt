-- `encode_ways::size_control` meets its contract: the size control before a candidate of a size: none (0), MSZ (1) or NSZ (2).
use mathlib.Core.Path.{sym, ◌∙◌}
use native.Mathlib.Omega.{arith}
use borrow.Author.Tests.{eqb-true, eqb-false}
use Rattle.encode_states.specs.Packed.{unpack}
use Rattle.encode_states.proofs.Digits.{narrow_not}
use Rattle.encode_candidates.specs.Packed.{size_of}
use Rattle.encode_ways.proofs.Choosing.{no_size, msz, narrow_already, nsz, wide_already}
use Rattle.encode_ways.proofs.size_control.Goals as goal

pub returns-in-Either : goal.returns-in-Either
unfolding size_of
returns-in-Either c = rw c.in-Either.is (no_size (unpack c.args.a))

pub returns-then-narrow : goal.returns-then-narrow
unfolding size_of
returns-then-narrow c =
    let one = eqb-true _ _ (sym c.narrow-narrow.ensures ∙ c.if-narrow.true) in
    rw c.in-Narrow.is (narrow_already (unpack c.args.a) (λ e. absurd (omega (arith, one, e))))

pub returns-else-narrow : goal.returns-else-narrow
unfolding size_of
returns-else-narrow c =
    rw c.in-Narrow.is (msz (unpack c.args.a) (narrow_not c.args.a (sym c.narrow-narrow.ensures ∙ c.if-narrow.false)))

pub returns-then-narrow-2 : goal.returns-then-narrow-2
unfolding size_of
returns-then-narrow-2 c =
    rw c.in-Wide.is (nsz (unpack c.args.a) (eqb-true _ _ (sym c.narrow-narrow.ensures ∙ c.if-narrow-2.true)))

pub returns-else-narrow-2 : goal.returns-else-narrow-2
unfolding size_of
returns-else-narrow-2 c =
    rw c.in-Wide.is (wide_already (unpack c.args.a) (eqb-false _ _ (sym c.narrow-narrow.ensures ∙ c.if-narrow-2.false)))
