-- `encode_candidates::pack` meets its contract. Assumes nothing.
use mathlib.Core.Path.{sym, ap}
use Prim.Native.Nat.{ℕ}
use Rattle.std.specs.Prelude.{Option}
use Rattle.tables.specs.Kanji.{place_value}
use Rattle.encode_candidates.specs.Packed.{packed}
use Rattle.encode_candidates.proofs.pack.Goals as goal

pub returns-in-Some : goal.returns-in-Some
unfolding packed
returns-in-Some c = ap (λ (p : Option (ℕ × ℕ)). packed (place_value p)) (sym c.in-Some.is)

pub returns-in-None : goal.returns-in-None
unfolding packed
returns-in-None c = ap (λ (p : Option (ℕ × ℕ)). packed (place_value p)) (sym c.in-None.is)
