-- `execute`: the macro runs in the cycle, and the macros stay.
use mathlib.Core.Path.{refl}
use Rattle.decode_outer.proofs.execute.Goals as goal

pub returns : goal.returns
returns c = record { macros = refl; ran = c.run_macro-core.ensures }
