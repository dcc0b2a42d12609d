-- `lens` meets its contract. The invariant: the first lengths are read. Assumes nothing.
use Rattle.bookmark_numbers.proofs.Reading.{Read}
use Rattle.bookmark_numbers.proofs.lens.Given as goal

abbrev pub invariant-loop-code : goal.invariant-loop-code
invariant-loop-code l = Read l.macros.lens l.code l.numbers
