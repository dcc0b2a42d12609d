-- `marks_hold` meets its contract. Assumes nothing.
use mathlib.Core.Path.{◌∙◌}
use native.Mathlib.Omega.{arith}
use borrow.Author.Rules.{rules}
use lib.ListN.{get_or}
use Rattle.std.proofs.lemmas.Iterator.{YieldsList-from_slice}
use Rattle.std.proofs.lemmas.Iterator.Search.{all_from_yields_List}
use Rattle.tables.specs.Kanji.{non_spacing, has_character}
use Rattle.bookmark_form.specs.Form.{marks_hold}
use Rattle.bookmark_form.proofs.Below.{below_part}
use Rattle.bookmark_form.proofs.Resumes.{marked}
use Rattle.bookmark_form.proofs.marks_hold.Goals as goal

pub returns : goal.returns
unfolding marks_hold
returns c =
    all_from_yields_List (has_character non_spacing) _ _ _ c.all.ensures.ran (YieldsList-from_slice _ c.iter.ensures.rest) (λ x b q k. search (rules, marked))
    ∙ below_part (has_character non_spacing) 12 (get_or c.args.l.now 10 0) _ c.args.l.now (omega arith) (omega (arith, c.requires.0, c.requires.1))
