-- `newline` meets its contract, by that of `decode_output::newline`.
use native.Mathlib.Omega.{arith}
use Rattle.decode_steps.proofs.Moving.{took_over, took_writes}
use Rattle.decode_steps.proofs.newline.Goals as goal

pub returns : goal.returns
returns c =
    λ cells b i l. took_over (λ g. took_writes b i (omega arith) (omega arith) l c.requires c.newline-o.ensures)
