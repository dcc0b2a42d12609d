-- A character or none, as the definition writes it. Assumes nothing.
use Prim.Native.Nat.{ℕ}
use native.Mathlib.Omega.{arith}
use mathlib.Core.Path.{◌≡◌}
use mathlib.Core.Bool.{true, false}
use Rattle.tables.specs.Kanji.{CellReads, non_spacing, has_character}
use Rattle.tables.specs.declared.Cell.TheVariants.{Char, PrivateUse, Undefined}
use Rattle.issues.specs.declared.IssueKind.{IssueKind}
use Rattle.decode_output.specs.Output.{emit, mark}
use Rattle.reading.specs.State.{State, placeholder, writes}
use Rattle.reading.specs.Characters.{emit_or, cell_or}
use Rattle.tables.proofs.Cases.{private_spacing, private_some}
use Rattle.decode_codes.proofs.Laws.{emit_some}

module _ (kind : IssueKind) (at : ℕ) (s : State) where
  pub emit_none : (c : ℕ) → c ≡ 0 → placeholder at kind s ≡ emit_or kind c at s
  unfolding emit_or
  emit_none c e = rw e

  pub cell_undefined : (x : ℕ) → CellReads Undefined x → placeholder at kind s ≡ cell_or kind x at s
  unfolding cell_or
  cell_undefined x e = rw e

  pub cell_mark : (x c : ℕ) → CellReads (Char c) x → has_character non_spacing c ≡ true → writes (mark c at) s ≡ cell_or kind x at s
  unfolding cell_or
  cell_mark x c e m = rw (e.0, m)

  pub cell_char : (x c : ℕ) → CellReads (Char c) x → has_character non_spacing c ≡ false → writes (emit c) s ≡ cell_or kind x at s
  unfolding cell_or
  cell_char x c e m = rw (e.0, m) (emit_some kind at s c (λ z. omega (arith, e.1)))

  pub cell_private : (x c : ℕ) → CellReads (PrivateUse c) x → writes (emit c) s ≡ cell_or kind x at s
  unfolding cell_or
  cell_private x c e = rw (e.0, private_spacing c e.1) (emit_some kind at s c (private_some c e.1))
