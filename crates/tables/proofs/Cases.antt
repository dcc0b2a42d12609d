-- What the answer of a cell look-up says. Assumes nothing.
use mathlib.Core.Path.{◌≡◌}
use mathlib.Core.Bool.{true, false}
use Prim.Native.Nat.{ℕ}
use native.Mathlib.Omega.{arith}
use Rattle.private_use.specs.PrivateUse.{is_private_use}
use Rattle.private_use.proofs.Laws.{at_least}
use Rattle.tables.specs.Kanji.{CellReads, Classed, non_spacing, has_character}
use Rattle.tables.specs.declared.Cell.{Cell}
use Rattle.tables.specs.declared.Cell.TheVariants.{Char, PrivateUse, Undefined}
use Rattle.tables.proofs.MarkLaws.{no_mark}

pub classed : (cell : Cell) (x : ℕ) → CellReads cell x → Classed cell
classed (Char c) x e = e.2
classed (PrivateUse c) x e = e.1
classed Undefined x e = tt

-- a private-use character is no mark, and there is one
pub private_spacing : (c : ℕ) → is_private_use c ≡ true → has_character non_spacing c ≡ false
private_spacing c h = no_mark c (λ _. omega (arith, at_least c h))

pub private_some : (c : ℕ) → is_private_use c ≡ true → c ≡ 0 → ⊥
private_some c h e = omega (arith, at_least c h, e)
