-- `stands` meets its contract. Assumes nothing.
use Prim.Native.Nat.{ℕ}
use mathlib.Core.Path.{ap, ◌∙◌}
use borrow.Author.Tests.{le-ltb}
use lib.Dec.{eqb}
use Rattle.catalogue_places.proofs.Looking.{stands_here, stands_not}
use Rattle.catalogue_places.proofs.stands.Goals as goal

pub returns-then-at-n : goal.returns-then-at-n
returns-then-at-n c =
    let a = c.args in
    ap (λ (v : ℕ). eqb v a.number) c.number.ensures ∙ stands_here a.number a.n a.places.now a.at c.if-at-n.true

pub returns-else-at-n : goal.returns-else-at-n
returns-else-at-n c =
    le-ltb c.args.at c.args.n c.if-at-n.false ∙ stands_not c.args.number c.args.n c.args.places.now c.args.at c.if-at-n.false
