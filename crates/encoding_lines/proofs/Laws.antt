-- Question 8 is never answered no: the buffer has nine bytes for each byte of the longest text. Assumes nothing.
use native.Mathlib.Omega.{arith}
use Rattle.laws_coding.proofs.Coding.{nine_suffice}
use Rattle.encoding_lines.specs.Lines.{call}
use Rattle.encoding_lines.specs.Laws.{NeverEight}

pub never_eight : NeverEight
never_eight cells text = nine_suffice.longest (call cells text) (omega arith)
