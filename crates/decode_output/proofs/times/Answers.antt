-- `decode_output::times` meets its contract. Assumes nothing.
use Prim.Native.Nat.{ℕ, zero, suc, max}
use mathlib.Core.Path.{◌≡◌, refl, ◌∙◌}
use native.Mathlib.Omega.{arith}
use Rattle.decode_output.specs.Output.{times}
use Rattle.decode_output.proofs.times.Goals as goal

at_least_one : (n : ℕ) → max n 1 ≡ times n
unfolding times
at_least_one zero = refl
at_least_one (suc n) = omega arith

pub returns : goal.returns
returns c = c.max.ensures ∙ at_least_one c.args.repeat
