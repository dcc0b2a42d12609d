-- `key::finish` meets its contract, by the decoding's answer. Assumes nothing.
use mathlib.Core.Path.{ap}
use native.Mathlib.Omega.{arith}
use Rattle.decode.specs.Answers.{text_of}
use Rattle.key.proofs.Calls.{keyed_as, refused_as}
use Rattle.key.proofs.finish.Goals as goal

pub from_text-requires : goal.from_text-requires
from_text-requires c =
    omega (arith, ap text_of c.in-Ok.is, c.requires)

pub returns-in-Ok : goal.returns-in-Ok
returns-in-Ok c =
    λ l d. keyed_as l _ _ d _ _ _ c.in-Ok.is c.from_text.ensures

pub returns-in-Err : goal.returns-in-Err
returns-in-Err c = λ l d. refused_as l _ _ d _ _ c.in-Err.is c.question.ensures.number c.question.ensures.place
