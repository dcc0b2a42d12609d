-- `is_store` meets its contract. Assumes nothing.
use Prim.Native.Nat.{ℕ, ◌*◌}
use mathlib.Core.Path.{refl, ◌∙◌}
use borrow.Author.Rules.{rules}
use borrow.Author.Tests.{tests, eq-eqb, ne_eqb}
use lib.Dec.{leb}
use lib.ListN.{get_or}
use Rattle.std.proofs.lemmas.Iterator.{YieldsList-from_range}
use Rattle.std.proofs.lemmas.Iterator.Search.{all_from_yields_List}
use Rattle.bookmark_form.specs.Form.{is_store}
use Rattle.bookmark_form.proofs.Below.{passes, fails, below_numbers}
use Rattle.bookmark_form.proofs.is_store.Goals as goal

pub returns-then-store : goal.returns-then-store
unfolding is_store
returns-then-store c =
    passes _ _ (eq-eqb _ _ c.if-store.true)
    (all_from_yields_List (λ (k : ℕ). leb (get_or c.args.store.now (k * 287) 0) 1) _ _ _ c.all.ensures.ran (YieldsList-from_range 0 16 16 refl refl)
    (λ x b q k. search (rules, tests))
    ∙ below_numbers 16 (λ (k : ℕ). leb (get_or c.args.store.now (k * 287) 0) 1))

pub returns-else-store : goal.returns-else-store
unfolding is_store
returns-else-store c = fails _ _ (ne_eqb _ _ c.if-store.false) refl
