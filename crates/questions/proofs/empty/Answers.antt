-- `questions::empty` meets its contract. Assumes nothing.
use mathlib.Core.Path.{◌≡◌, ap, ◌∙◌}
use Prim.Native.Nat.{ℕ}
use lib.Dec.{eqb}
use lib.Bits.{bit_or}
use borrow.Author.Rules.{rules}
use Rattle.std.specs.List.{fold}
use Rattle.questions.proofs.CellTable.{fold_bits}
use Rattle.questions.proofs.empty.Goals as goal

pub returns : goal.returns
returns c =
    let folded : c.fold.result ≡ fold (λ bits x. bit_or bits x) 0 c.args.t.now = search rules in
    ap (λ (n : ℕ). eqb n 0) folded ∙ fold_bits c.args.t.now
