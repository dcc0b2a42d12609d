-- `zero` meets its contract. Assumes nothing.
use mathlib.Core.Path.{ap, ◌∙◌}
use borrow.Author.Rules.{rules}
use borrow.Author.Tests.{tests}
use lib.Bits.{bit_or}
use lib.Dec.{eqb}
use Prim.Native.Nat.{ℕ}
use Rattle.std.proofs.lemmas.Iterator.{YieldsList-from_slice}
use Rattle.std.proofs.lemmas.Iterator.Consumers.{fold_from_yields_List}
use Rattle.catalogue_form.proofs.Zeros.{bits_zero}
use Rattle.catalogue_form.proofs.zero.Goals as goal

pub returns : goal.returns
returns c =
    ap (λ (n : ℕ). eqb n 0)
    (fold_from_yields_List _ bit_or 0 c.fold.result c.fold.ensures.ran (YieldsList-from_slice c.args.s.now c.iter.ensures.rest) (λ a x b q k. search (rules, tests)))
    ∙ bits_zero 0 c.args.s.now
