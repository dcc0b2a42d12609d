-- Worked examples, computed: Si, CharacterSize and an empty cell table.
use Rattle.std.specs.Prelude.{ℕ, ◌≡◌, refl, List, [], ◌∷◌, replicate}
use Rattle.issues.specs.declared.IssueKind.TheVariants.{UnknownEscape, LoneSingleShift}
use Rattle.reading.specs.State.{given, start}
use Rattle.reading.specs.Between.{Between, before}
use Rattle.bookmark_form.specs.Numbers.{numbers}

abbrev at : List ℕ → ℕ → Between
at input place = before (given [] 0 input) 0 place

-- Stopping at a place is not cutting the input there: a step before it sees what follows.
record Worked : Type 0 where
  -- 1B 24 | A2: the escape ends before A2, so it is unknown; of the input cut there it would be Truncated
  escape : (at (0x1B ∷ 0x24 ∷ 0xA2 ∷ []) 2).state.out.issues ≡ record { offset = 0; kind = UnknownEscape 0 2; position = 0 } ∷ []
  -- 19 | 0D: a single shift before a newline
  shift : (at (0x19 ∷ 0x0D ∷ []) 1).state.out.issues ≡ record { offset = 0; kind = LoneSingleShift; position = 0 } ∷ []
  -- 9D 29 30 | A2: TIME, whose parameters A2 ends without an issue
  time : (at (0x9D ∷ 0x29 ∷ 0x30 ∷ 0xA2 ∷ []) 3).state.out.issues ≡ []
  -- a step begins at each of these places
  begins : (at (0x1B ∷ 0x24 ∷ 0xA2 ∷ []) 2).at ∷ (at (0x19 ∷ 0x0D ∷ []) 1).at ∷ (at (0x9D ∷ 0x29 ∷ 0x30 ∷ 0xA2 ∷ []) 3).at ∷ [] ≡ 2 ∷ 1 ∷ 3 ∷ []
  -- none begins inside a two-byte character; behind the end there is none
  inside : (at (0x24 ∷ 0x22 ∷ []) 1).at ∷ (at (0x24 ∷ 0x22 ∷ []) 3).at ∷ [] ≡ 2 ∷ 2 ∷ []
  -- the numbers before the first byte
  first : numbers 0 (start 0) ≡ 1 ∷ 0 ∷ 0 ∷ 1 ∷ 2 ∷ 3 ∷ 0 ∷ 2 ∷ replicate 279 0

worked : Worked
unfolding before numbers start
worked = record { escape = refl; shift = refl; time = refl; begins = refl; inside = refl; first = refl }
