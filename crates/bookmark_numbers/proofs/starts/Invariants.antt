-- `starts` meets its contract. The invariant: the first starts are read. Assumes nothing.
use mathlib.Core.List.{map}
use Rattle.bookmark_form.specs.Numbers.{plus_one}
use Rattle.bookmark_numbers.proofs.Reading.{Read}
use Rattle.bookmark_numbers.proofs.starts.Given as goal

abbrev pub invariant-loop-code : goal.invariant-loop-code
invariant-loop-code l = Read (map plus_one l.macros.starts) l.code l.numbers
