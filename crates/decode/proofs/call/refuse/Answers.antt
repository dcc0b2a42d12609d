-- `refuse`: the number, and zeros throughout.
use mathlib.Core.Path.{refl, ◌∙◌}
use Rattle.questions.proofs.Buffers.{clear_all}
use Rattle.decode.proofs.call.refuse.Goals as goal

pub returns : goal.returns
returns c =
    record { answer = refl; text = c.clear.ensures ∙ clear_all _; issues = c.clear-2.ensures ∙ clear_all _ }
