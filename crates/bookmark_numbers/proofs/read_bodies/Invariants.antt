-- `read_bodies` meets its contract. The invariant: the first starts and lengths are read. Assumes nothing.
use Prim.Native.Nat.{ℕ, ◌-◌}
use mathlib.Core.List.{map}
use lib.ListN.{take, drop}
use Rattle.bookmark_numbers.proofs.Reading.{Read}
use Rattle.bookmark_numbers.proofs.read_bodies.Given as goal

abbrev pub invariant-loop-code : goal.invariant-loop-code
invariant-loop-code l = Read (map (λ (n : ℕ). n - 1) (take 128 (drop 28 l.l))) l.code l.starts × Read (take 128 (drop 156 l.l)) l.code l.lens
