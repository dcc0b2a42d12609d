-- `lens` meets its contract. The invariant: the first lengths are read. Assumes nothing.
use mathlib.Core.Path.{refl}
use borrow.Author.Rules.{rules}
use Rattle.bookmark_numbers.proofs.Reading.{read_none, read_one, read_all}
use Rattle.bookmark_numbers.proofs.lens.Goals as goal

pub loop-code-init : goal.loop-code-init
loop-code-init c = read_none refl

pub loop-code-preserved : goal.loop-code-preserved
loop-code-preserved c = read_one _ c.loop-code-test.true (search rules) c.loop-code.invariant

pub returns : goal.returns
returns c = read_all c.loop-code-test.false (search rules) c.loop-code.invariant
