-- `is_decimal` meets its contract. Assumes nothing.
use Rattle.keys_form.specs.Line.{is_decimal}
use Rattle.keys_form.proofs.parts.is_decimal.Goals as goal

pub returns : goal.returns
unfolding is_decimal
returns c = c.is_ascii_digit.ensures.value
