-- `encode_candidates::with_space` meets its contract. Assumes nothing.
use mathlib.Core.Path.{◌≡◌, ap, ◌∙◌}
use mathlib.Core.Bool.{Bool, true, false, cond}
use mathlib.Core.List.{List, [], ◌∷◌, ◌++◌}
use Prim.Native.Nat.{ℕ}
use lib.Dec.{eqb}
use borrow.Author.Tests.{ne_eqb}
use Rattle.control.specs.Codes.{SP}
use Rattle.coding.specs.Candidates.{narrow, wide, Cand, plain}
use Rattle.base.specs.Lists.{when}
use Rattle.encode_candidates.specs.Packed.{size_of}
use Rattle.encode_candidates.proofs.Adding.{likewise, one_more, none_more}
use Rattle.encode_candidates.proofs.with_space.Goals as goal
use Rattle.encode_candidates.proofs.with_space.Goals.{else-not-annex-via-then-not-annex+else-c-eq12288, else-not-annex-via-else-not-annex}

abbrev spaces : ℕ → Bool → List Cand
spaces c annex = when (eqb c 0x20) (plain SP narrow) ++ cond annex [] (when (eqb c 0x3000) (plain SP wide))

narrow_space : (c : ℕ) (annex : Bool) → c ≡ 0x20 → plain SP narrow ∷ [] ≡ spaces c annex
narrow_space c true e = rw e
narrow_space c false e = rw e

in-annex : (c : ℕ) (annex : Bool) → (c ≡ 0x20 → ⊥) → annex ≡ true → [] ≡ spaces c annex
in-annex c annex n e = rw (ne_eqb c 0x20 n, e)

wide_space : (c : ℕ) (annex : Bool) → annex ≡ false → c ≡ 0x3000 → plain SP wide ∷ [] ≡ spaces c annex
wide_space c annex a e = rw (e, a)

no-space : (c : ℕ) (annex : Bool) → (c ≡ 0x20 → ⊥) → annex ≡ false → (c ≡ 0x3000 → ⊥) → [] ≡ spaces c annex
no-space c annex n a m = rw (ne_eqb c 0x20 n, a, ne_eqb c 0x3000 m)

pub returns-then-c-eq32 : goal.returns-then-c-eq32
unfolding size_of
returns-then-c-eq32 c =
    likewise (one_more _ _ _ c.push.ensures)
    (ap (λ (y : Cand). y ∷ []) c.without_set.ensures ∙ narrow_space c.args.c c.args.annex c.if-c-eq32.true)

pub returns-then-c-eq12288 : goal.returns-then-c-eq12288
unfolding size_of
returns-then-c-eq12288 c =
    likewise (one_more _ _ _ c.push-then-c-eq12288.ensures)
    (ap (λ (y : Cand). y ∷ []) c.without_set-then-c-eq12288.ensures ∙ wide_space c.args.c c.args.annex c.if-not-annex.true c.if-c-eq12288.true)

pub returns-else-not-annex : goal.returns-else-not-annex
returns-else-not-annex c =
    elim c.else-not-annex.branch [
      | else-not-annex-via-then-not-annex+else-c-eq12288 w ↦
          likewise (none_more _ 1) (no-space c.args.c c.args.annex c.if-c-eq32.false w.if-not-annex.true w.if-c-eq12288.false)
      | else-not-annex-via-else-not-annex w ↦ likewise (none_more _ 1) (in-annex c.args.c c.args.annex c.if-c-eq32.false w.if-not-annex.false)
    ]
