-- `stop_char` meets its contract: what stops the steps, or why they pass.
use Rattle.decode_steps.proofs.Stops.{passes_char}
use Rattle.decode_steps.proofs.stop_char.Goals as goal

pub returns-then-sets-e-ne-MACRO_SET : goal.returns-then-sets-e-ne-MACRO_SET
returns-then-sets-e-ne-MACRO_SET c =
    λ b i l e. passes_char b i c.args.s c.args.e (rw e c.requires) c.if-sets-e-ne-MACRO_SET.true

pub returns : goal.returns
returns c =
    λ b i l e. record { within = l; char = rw e c.requires; macros = c.if-sets-e-ne-MACRO_SET.false }
