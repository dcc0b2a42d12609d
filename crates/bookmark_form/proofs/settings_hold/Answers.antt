-- `settings_hold` meets its contract. Assumes nothing.
use Prim.Native.Nat.{ℕ}
use mathlib.Core.Path.{◌≡◌, refl, sym, ap₂, ◌∙◌}
use mathlib.Core.Bool.{Bool, ◌&&◌}
use mathlib.Core.List.{List}
use native.Mathlib.Omega.{arith}
use borrow.Author.Rules.{rules}
use borrow.Author.Tests.{tests}
use lib.Dec.{leb}
use lib.ListN.{length, take, drop, get_or}
use Rattle.std.specs.List.{list_all}
use Rattle.std.proofs.lemmas.Iterator.{YieldsList-from_slice}
use Rattle.std.proofs.lemmas.Iterator.Search.{all_from_yields_List}
use Rattle.bookmark_form.specs.Form.{all_below, settings_hold}
use Rattle.bookmark_form.proofs.Below.{passes, fails, seven, below_part}
use Rattle.bookmark_form.proofs.settings_hold.Goals as goal
use Rattle.bookmark_form.proofs.settings_hold.Goals.{then-all, else-all}

-- the two parts that are gone through, and the last number
joined : (l : List ℕ) → length l ≡ 287 →
    (list_all (λ (n : ℕ). leb n 31) (take 4 (drop 2 l)) && list_all (λ (n : ℕ). leb n 3) (take 2 (drop 6 l)) && leb (get_or l 8 0) 1) ≡ settings_hold l
unfolding settings_hold all_below
joined l h =
    ap₂ (λ (a b : Bool). a && b && leb (get_or l 8 0) 1) (below_part (λ (n : ℕ). leb n 31) 2 4 4 l refl (omega (arith, h)))
    (below_part (λ (n : ℕ). leb n 3) 6 2 2 l refl (omega (arith, h)))
    ∙ seven (leb (get_or l 2 0) 31) (leb (get_or l 3 0) 31) (leb (get_or l 4 0) 31) (leb (get_or l 5 0) 31) (leb (get_or l 6 0) 3) (leb (get_or l 7 0) 3)
    (leb (get_or l 8 0) 1)

pub returns-then-all-2 : goal.returns-then-all-2
returns-then-all-2 c =
    let l = c.args.l.now in
    let sets : c.all.result ≡ list_all (λ (n : ℕ). leb n 31) (take 4 (drop 2 l)) =
    all_from_yields_List (λ (n : ℕ). leb n 31) _ _ c.all.result c.all.ensures.ran (YieldsList-from_slice _ c.iter.ensures.rest) (λ x b q k. search (rules, tests)) in
    let both : c.if-all.value ≡ (list_all (λ (n : ℕ). leb n 31) (take 4 (drop 2 l)) && list_all (λ (n : ℕ). leb n 3) (take 2 (drop 6 l))) =
    elim c.if-all.branch [
      | then-all w ↦
          passes _ _ (sym sets ∙ w.if-all.true)
          (w.value-is
          ∙ all_from_yields_List (λ (n : ℕ). leb n 3) _ _ w.all-then-all.result w.all-then-all.ensures.ran (YieldsList-from_slice _ w.iter-then-all.ensures.rest)
          (λ x b q k. search (rules, tests)))
      | else-all w ↦ fails _ _ (sym sets ∙ w.if-all.false) (w.value-is ∙ sets)
    ] in
    passes _ _ (sym both ∙ c.if-all-2.true) refl ∙ joined l c.requires

pub returns-else-all-2 : goal.returns-else-all-2
returns-else-all-2 c =
    let l = c.args.l.now in
    let sets : c.all.result ≡ list_all (λ (n : ℕ). leb n 31) (take 4 (drop 2 l)) =
    all_from_yields_List (λ (n : ℕ). leb n 31) _ _ c.all.result c.all.ensures.ran (YieldsList-from_slice _ c.iter.ensures.rest) (λ x b q k. search (rules, tests)) in
    let both : c.if-all.value ≡ (list_all (λ (n : ℕ). leb n 31) (take 4 (drop 2 l)) && list_all (λ (n : ℕ). leb n 3) (take 2 (drop 6 l))) =
    elim c.if-all.branch [
      | then-all w ↦
          passes _ _ (sym sets ∙ w.if-all.true)
          (w.value-is
          ∙ all_from_yields_List (λ (n : ℕ). leb n 3) _ _ w.all-then-all.result w.all-then-all.ensures.ran (YieldsList-from_slice _ w.iter-then-all.ensures.rest)
          (λ x b q k. search (rules, tests)))
      | else-all w ↦ fails _ _ (sym sets ∙ w.if-all.false) (w.value-is ∙ sets)
    ] in
    fails _ _ (sym both ∙ c.if-all-2.false) both ∙ joined l c.requires
