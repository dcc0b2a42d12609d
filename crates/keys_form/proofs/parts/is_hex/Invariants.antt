-- `is_hex` meets its contract: the digits that are left decide. Assumes nothing.
use mathlib.Core.Path.{◌≡◌}
use lib.ListN.{drop}
use Rattle.questions.specs.Questions.{all}
use Rattle.keys_form.specs.Line.{is_hex_digit, is_hex}
use Rattle.keys_form.proofs.parts.is_hex.Given as goal

abbrev pub invariant-loop-x : goal.invariant-loop-x
invariant-loop-x l = is_hex l.ds ≡ all is_hex_digit (drop l.x-index l.ds)
