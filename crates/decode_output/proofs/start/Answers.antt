-- `decode_output::start` meets its contract. Assumes nothing.
use mathlib.Core.Path.{refl}
use Rattle.private_use.specs.PrivateUse.{private_use}
use Rattle.utf8.specs.Utf8.{utf8s}
use Rattle.decode_output.specs.Output.{nothing}
use Rattle.decode_output.specs.Waiting.{packed}
use Rattle.decode_output.proofs.start.Goals as goal

pub returns : goal.returns
unfolding nothing utf8s private_use packed
returns c = refl
