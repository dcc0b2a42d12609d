-- `encode_states::start` meets its contract: the start: Si (0) or Caption.
use native.Mathlib.Omega.{arith}
use borrow.Author.Tests.{eq-eqb, ne_eqb}
use Rattle.coding.specs.State.{start}
use Rattle.encode_states.specs.Packed.{unpack}
use Rattle.encode_states.proofs.start.Goals as goal

pub returns-then-initial-eq0 : goal.returns-then-initial-eq0
unfolding start unpack
returns-then-initial-eq0 c = record { proper = record { g0 = omega arith; g1 = omega arith; g2 = omega arith; g3 = omega arith }; is = rw (eq-eqb _ _ c.if-initial-eq0.true) }

pub returns-else-initial-eq0 : goal.returns-else-initial-eq0
unfolding start unpack
returns-else-initial-eq0 c = record { proper = record { g0 = omega arith; g1 = omega arith; g2 = omega arith; g3 = omega arith }; is = rw (ne_eqb _ _ c.if-initial-eq0.false) }
