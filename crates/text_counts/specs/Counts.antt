-- What the exported calls leave in a slice of counts. It may have any length: the numbers go to its front as far as it reaches, and those past them stay.
use Rattle.std.specs.Prelude.{ℕ, ◌-◌, cond, List, leb}
use Rattle.std.proofs.lemmas.List.Edits.{sets}

-- the slice with the numbers at its front
abbrev pub fronted : List ℕ → List ℕ → List ℕ
fronted before numbers = sets before 0 numbers

-- where the part of an escape begins: "a start and length that leave the input get the empty part at its beginning"
unfoldable pub escape_start : ℕ → ℕ → ℕ → ℕ
escape_start size start len = cond (leb start size) (cond (leb len (size - start)) start 0) 0
