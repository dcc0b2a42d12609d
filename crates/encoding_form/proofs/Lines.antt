-- How long the lines are. Assumes nothing.
use Prim.Native.Nat.{ℕ, ◌+◌, ◌≤◌}
use mathlib.Core.List.{List}
use native.Mathlib.Omega.{arith}
use lib.ListN.{length, length-append}
use Rattle.lent.specs.Put.{Put}
use Rattle.ascii.specs.Ascii.{hexadecimal}
use Rattle.ascii.proofs.Digits.{decimal_few, hexadecimal_long}
use Rattle.encoding_form.specs.Lines.{first_line}

first_few : (n gap : ℕ) → n ≤ 65529 → gap ≤ 65529 → length (first_line n gap) ≤ 23
unfolding first_line
first_few n gap p q = simp length-append (omega (arith, decimal_few 4 n (omega arith), decimal_few 4 gap (omega arith)))

-- where the first line ends, and the second
pub first_within : (n gap : ℕ) {l l' : List ℕ} {r : ℕ} → n ≤ 65529 → gap ≤ 65529 → Put l 0 (first_line n gap) l' r → r ≤ 23
first_within n gap g h p = omega (arith, p.next, first_few n gap g h)

pub coding_within : (coding : List ℕ) {l l' : List ℕ} {a r : ℕ} → length coding ≤ 65529 → a ≤ 23 → Put l a (hexadecimal coding) l' r → r ≤ 23 + 131058
coding_within coding h g p = omega (arith, p.next, hexadecimal_long coding)
