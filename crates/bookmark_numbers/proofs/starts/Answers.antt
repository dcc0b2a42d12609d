-- `starts` meets its contract. The invariant: the first starts are read. Assumes nothing.
use mathlib.Core.Path.{◌≡◌, refl, sym, ◌∙◌}
use borrow.Author.Rules.{rules}
use lib.ListN.{length}
use Rattle.bookmark_numbers.proofs.Putting.{plus_at, length_plus}
use Rattle.bookmark_numbers.proofs.Reading.{read_none, read_one, read_all}
use Rattle.bookmark_numbers.proofs.starts.Goals as goal

pub loop-code-init : goal.loop-code-init
loop-code-init c = read_none refl

pub loop-code-preserved : goal.loop-code-preserved
loop-code-preserved c =
    read_one _ c.loop-code-test.true (c.plus_one.ensures ∙ sym (plus_at c.args.macros.now.starts c.loop-code.code)) c.loop-code.invariant

pub returns : goal.returns
returns c =
    let starts = c.args.macros.now.starts in
    let n : length starts ≡ 128 = search rules in
    read_all c.loop-code-test.false (length_plus starts ∙ n) c.loop-code.invariant
