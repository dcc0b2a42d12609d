-- `trimmed` meets its contract. Assumes nothing.
use native.Mathlib.Omega.{arith}
use Rattle.keys_form.proofs.Reading.{trimmed_none, trimmed_one, trimmed_not}
use Rattle.keys_form.proofs.parts.trimmed.Goals as goal

pub returns-in-13 : goal.returns-in-13
returns-in-13 c = trimmed_one _ (omega arith)

pub returns-in_default : goal.returns-in_default
returns-in_default c = trimmed_none _ (omega arith)

pub returns-in_default-2 : goal.returns-in_default-2
returns-in_default-2 c = trimmed_not _ (λ e. omega (arith, e))
