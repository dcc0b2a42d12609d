-- `refuse` meets its contract. Assumes nothing.
use mathlib.Core.Path.{refl, ◌∙◌}
use Rattle.questions.proofs.Buffers.{clear_all}
use Rattle.catalogue.proofs.refuse.Goals as goal

pub returns : goal.returns
returns c =
    record { value = refl; key_after = c.clear.ensures ∙ clear_all c.args.key.now }
