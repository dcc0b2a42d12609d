-- `truncated` meets its contract. Assumes nothing.
use mathlib.Core.Path.{refl}
use native.Mathlib.Omega.{arith}
use Rattle.reading.specs.State.{truncated}
use Rattle.decode_reports.proofs.Moving.{took_of}
use Rattle.decode_reports.proofs.truncated.Goals as goal

pub returns : goal.returns
unfolding truncated
returns c =
    let inside = c.requires.i_in_bounds in
    λ t. took_of (λ σ. refl) (c.report.ensures t) (omega arith) (omega arith)
