-- `questions::scalars` meets its contract. Assumes nothing.
use mathlib.Core.Path.{◌≡◌, refl, ◌∙◌}
use mathlib.Core.Bool.{◌&&◌}
use borrow.Author.Rules.{rules}
use Rattle.std.specs.Prelude.{map}
use Rattle.questions.specs.Questions.{scalar}
use Rattle.questions.proofs.CellTable.{fold_scalars}
use Rattle.questions.proofs.scalars.Goals as goal

pub returns : goal.returns
returns c =
    let r = c.fold.ensures.runs in
    let folded = r.3 (λ good x. good && scalar x.now) (λ x y z f h. (refl, search rules)) in
    let items : map (λ y. y.now) r.0.items ≡ c.args.t.now = search rules in
    folded ∙ fold_scalars _ _ items
