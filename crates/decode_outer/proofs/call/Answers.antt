-- `call`: the step is the cycle's, and the macros stay.
use mathlib.Core.Path.{refl}
use Rattle.decode_outer.proofs.Defining.{outer}
use Rattle.decode_outer.proofs.call.Goals as goal

pub returns : goal.returns
returns c =
    λ e q. outer c.requires.outside.inside (c.graphic-core.ensures e _ _ q c.requires.i_in_bounds.0 refl)
