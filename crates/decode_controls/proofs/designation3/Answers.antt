-- `designation3` meets its contract. Assumes nothing.
use native.Mathlib.Omega.{arith}
use Rattle.decode_controls.proofs.Escapes.{three_drcs, three_none}
use Rattle.decode_controls.proofs.designation3.Goals as goal

pub returns-in-36-40-to-43-eq32 : goal.returns-in-36-40-to-43-eq32
returns-in-36-40-to-43-eq32 c = three_drcs _ _ _ _ (omega arith) (omega arith) (omega arith) (omega arith) c.designate.ensures

pub returns-in_default : goal.returns-in_default
returns-in_default c = three_none _ _ _ _ (λ p q r s. omega arith)

pub returns-in_default-2 : goal.returns-in_default-2
returns-in_default-2 c = three_none _ _ _ _ (λ p q r s. omega arith)

pub returns-in_default-3 : goal.returns-in_default-3
returns-in_default-3 c = three_none _ _ _ _ (λ p q r s. omega arith)

pub returns-in_default-4 : goal.returns-in_default-4
returns-in_default-4 c = three_none _ _ _ _ (λ p q r s. omega arith)
