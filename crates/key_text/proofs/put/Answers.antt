-- `put` meets its contract. Assumes nothing.
use mathlib.Core.Path.{sym, ap, ◌∙◌}
use native.Mathlib.Omega.{arith}
use Rattle.utf8.proofs.Bytes.{length_utf8}
use Rattle.key_text.specs.Promises.{kept_of}
use Rattle.key_text.proofs.Characters.{put_char, put_nothing}
use Rattle.key_text.proofs.put.Goals as goal

pub overflow_add-result : goal.overflow_add-result
overflow_add-result c =
    omega (arith, c.put.ensures.count, length_utf8 c.in-Some.x, c.well_formed, c.requires)

pub returns-in-Some : goal.returns-in-Some
returns-in-Some c =
    put_char _ _ _ _ _ _ (sym c.key_char.ensures ∙ ap kept_of c.in-Some.is) c.put.ensures

pub returns-in-None : goal.returns-in-None
returns-in-None c = put_nothing _ _ _ (sym c.key_char.ensures ∙ ap kept_of c.in-None.is)
