-- `designation2` meets its contract. Assumes nothing.
use native.Mathlib.Omega.{arith}
use Rattle.decode_controls.proofs.Escapes.{two_drcs, two_set, two_none}
use Rattle.decode_controls.proofs.designation2.Goals as goal

pub returns-in-36-41-to-43 : goal.returns-in-36-41-to-43
returns-in-36-41-to-43 c = two_set _ _ _ (omega arith) (omega arith) (omega arith) c.designate.ensures

pub returns-in-40-to-43-eq32 : goal.returns-in-40-to-43-eq32
returns-in-40-to-43-eq32 c = two_drcs _ _ _ (omega arith) (omega arith) (omega arith) c.designate-in-40-to-43-eq32.ensures

pub returns-in_default : goal.returns-in_default
returns-in_default c = two_none _ _ _ (λ p q r. omega arith) (λ p q r. omega arith)

pub returns-in_default-2 : goal.returns-in_default-2
returns-in_default-2 c = two_none _ _ _ (λ p q r. omega arith) (λ p q r. omega arith)

pub returns-in_default-3 : goal.returns-in_default-3
returns-in_default-3 c = two_none _ _ _ (λ p q r. omega arith) (λ p q r. omega arith)

pub returns-in_default-4 : goal.returns-in_default-4
returns-in_default-4 c = two_none _ _ _ (λ p q r. omega arith) (λ p q r. omega arith)

pub returns-in_default-5 : goal.returns-in_default-5
returns-in_default-5 c = two_none _ _ _ (λ p q r. omega arith) (λ p q r. omega arith)
