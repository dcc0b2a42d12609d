-- A part that is lent from a place on, to the end. Assumes nothing.
use Prim.Native.Nat.{ℕ, ◌-◌}
use mathlib.Core.Path.{◌≡◌}
use mathlib.Core.List.{List}
use native.Mathlib.Omega.{arith}
use lib.ListN.{length, take, drop, length-drop}
use lib.Seq.{take_all}

pub lent_rest : (s : List ℕ) (k : ℕ) → take (length s - k) (drop k s) ≡ drop k s
lent_rest s k = take_all (length s - k) (drop k s) (omega (arith, length-drop k s))
