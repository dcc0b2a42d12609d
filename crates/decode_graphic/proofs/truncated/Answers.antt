-- `truncated` meets its contract. Assumes nothing.
use mathlib.Core.Path.{refl}
use native.Mathlib.Omega.{arith}
use Rattle.reading.specs.State.{truncated}
use Rattle.decode_characters.proofs.Did.{took_did}
use Rattle.decode_graphic.proofs.truncated.Goals as goal

pub returns : goal.returns
unfolding truncated
returns c =
    let a = c.args in
    λ cells b t i h. took_did (λ g. truncated 1 a.at) 1 (omega arith) (omega arith) (λ g x. refl) (c.report.ensures cells t)
