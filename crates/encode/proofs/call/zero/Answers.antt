-- `encode::call::zero` meets its contract: zeros from the first element on. Assumes nothing.
use mathlib.Core.Path.{◌∙◌}
use Rattle.questions.proofs.Buffers.{clear_all}
use Rattle.encode.proofs.call.zero.Goals as goal

pub returns : goal.returns
returns c =
    record { store = c.clear.ensures ∙ clear_all _; buffer = c.clear-2.ensures ∙ clear_all _ }
