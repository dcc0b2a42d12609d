-- `alphanumeric_at` meets its contract. Assumes nothing.
use Prim.Native.Nat.{ℕ, ◌≤◌, ◌+◌, ◌-◌}
use mathlib.Core.Path.{◌≡◌, refl, sym, ap, ◌∙◌, subst}
use mathlib.Core.Bool.{Bool, true, false, cond, ◌&&◌}
use native.Mathlib.Omega.{arith}
use lib.Dec.{eqb, leb}
use Rattle.std.specs.Prelude.{Option, Some, None, MatchOption, IsSomeAnd}
use Rattle.tables_onebyte.specs.OneByte.{fullwidth_of, OneByteReads}
use Rattle.decode_codes.proofs.Laws.{letter_narrow, letter_wide}
use Rattle.decode_codes.proofs.alphanumeric_at.Goals as goal

fullwidth_some : (c : ℕ) → 1 ≤ c → 1 ≤ fullwidth_of c
unfolding fullwidth_of
fullwidth_some c h = go (leb 0x21 c && leb c 0x7E) (eqb c 0xA5)
  where
    go : (u v : Bool) → 1 ≤ cond u (c - 0x21 + 0xFF01) (cond v 0xFFE5 c)
    go true v = omega arith
    go false true = omega arith
    go false false = h

fullwidth_none : fullwidth_of 0 ≡ 0
unfolding fullwidth_of
fullwidth_none = refl

wide : (r m : Option ℕ) (x : ℕ) → OneByteReads r x → MatchOption r (m ≡ None) (λ v. IsSomeAnd m (λ w. w ≡ fullwidth_of v)) → OneByteReads m (fullwidth_of x)
wide None m x e q = rw q (ap fullwidth_of e ∙ fullwidth_none)
wide (Some v) None x e q = absurd q
wide (Some v) (Some w) x e q = (ap fullwidth_of e.0 ∙ sym q, rw q (fullwidth_some v e.1))

pub returns-then-narrow : goal.returns-then-narrow
returns-then-narrow c = subst (OneByteReads c.alphanumeric.result) (letter_narrow _ _ c.if-narrow.true) c.alphanumeric.ensures

pub returns : goal.returns
returns c = subst (OneByteReads c.map.result) (letter_wide _ _ c.if-narrow.false)
    (wide c.alphanumeric-2.result c.map.result _ c.alphanumeric-2.ensures c.map.ensures.cases)
