-- `decoded_lines` meets its contract: a question fails, or the input is decoded. Assumes nothing.
use Prim.Native.Nat.{◌<◌}
use mathlib.Core.Path.{sym, ◌∙◌}
use native.Mathlib.Omega.{arith}
use Rattle.questions.proofs.Refusals.{some_number}
use Rattle.ascii.proofs.Writing.{printed_refused}
use Rattle.listing_lines.proofs.Outcomes.{lines_first}
use Rattle.listing_lines.proofs.decoded_lines.Goals as goal

pub passed_lines-requires : goal.passed_lines-requires
passed_lines-requires c = sym c.in-Ok.ensures.number

pub returns-in-Err : goal.returns-in-Err
returns-in-Err c =
    let more : 0 < c.number.result = omega (arith, c.number.ensures, some_number c.in-Err.refusal) in
    printed_refused _ (omega arith) (lines_first _ _ _ (c.number.ensures ∙ c.in-Err.ensures.number) more) c.refused.ensures.put c.refused.ensures.upper_bound
