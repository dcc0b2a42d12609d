-- `hex_value` meets its contract: each range is the definition's. Assumes nothing.
use native.Mathlib.Omega.{arith}
use Rattle.keys_form.proofs.Reading.{hex_digit, hex_upper, hex_lower, hex_none, hex_some, hex_other}
use Rattle.keys_form.proofs.parts.hex_value.Goals as goal

pub returns-in-48-to-57 : goal.returns-in-48-to-57
returns-in-48-to-57 c = hex_some c.args.x _ (hex_digit c.args.x (omega arith) (omega arith)) (omega arith)

pub returns-in-65-to-70 : goal.returns-in-65-to-70
returns-in-65-to-70 c = hex_some c.args.x _ (omega (arith, hex_upper c.args.x (λ g. omega arith) (omega arith) (omega arith))) (omega arith)

pub returns-in-97-to-102 : goal.returns-in-97-to-102
returns-in-97-to-102 c = hex_some c.args.x _ (omega (arith, hex_lower c.args.x (omega arith) (omega arith))) (omega arith)

pub returns-in_default : goal.returns-in_default
returns-in_default c = hex_other c.args.x (hex_none c.args.x (λ f. omega arith) (λ g. omega arith) (λ h. omega arith))

pub returns-in_default-2 : goal.returns-in_default-2
returns-in_default-2 c = hex_other c.args.x (hex_none c.args.x (λ f. omega arith) (λ g. omega arith) (λ h. omega arith))

pub returns-in_default-3 : goal.returns-in_default-3
returns-in_default-3 c = hex_other c.args.x (hex_none c.args.x (λ f. omega arith) (λ g. omega arith) (λ h. omega arith))

pub returns-in_default-4 : goal.returns-in_default-4
returns-in_default-4 c = hex_other c.args.x (hex_none c.args.x (λ f. omega arith) (λ g. omega arith) (λ h. omega arith))
