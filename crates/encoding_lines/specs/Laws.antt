-- A law of what is printed, as a statement. proofs/Laws.antt proves it.
use Rattle.std.specs.Prelude.{ℕ, ◌≡◌, List}
use Rattle.coding.specs.Call.{outcome}
use Rattle.encoding_lines.specs.Lines.{call}

-- every coding fits its buffer: 8 is never answered
abbrev pub NeverEight : Type 0
NeverEight = (cells text : List ℕ) → (outcome (call cells text)).refused ≡ 8 → ⊥
