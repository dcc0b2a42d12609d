-- What is promised of a character that is written as it stands.
use Rattle.std.specs.Prelude.{ℕ, ◌+◌, ◌-◌, ◌*◌, ◌/◌, ◌%◌, ◌≤◌, ◌<◌, ◌≡◌, true, false, ◌&&◌, List, [], eqb, length, drop, get_or}
use Rattle.private_use.specs.PrivateUse.{is_private_use}
use Rattle.tables.specs.Kanji.{non_spacing, has_character}
use Rattle.tables.specs.declared.Cell.{Cell}
use Rattle.tables.specs.declared.Cell.TheVariants.{Char, PrivateUse, Undefined}
use Rattle.utf8.specs.Utf8.{utf8}
use Rattle.decode_output.specs.Output.{emit}
use Rattle.reading.specs.State.{Given, State, took, writes, is_narrow}
use Rattle.reading.specs.Macros.{Run}
use Rattle.reading.specs.Characters.{is_graphic}
use Rattle.reading.specs.Steps.{step}
use Rattle.decode_codes.specs.Codes.{cell_at}
use Rattle.decode_letters.specs.declared.Invoked.{Invoked}

-- an answer, where it is a character, is the character x of a cell, and no mark
abbrev pub Spacing : ℕ → Cell → Type 0
Spacing x (Char c) = (x ≡ c) × (c ≡ 0 → ⊥) × (has_character non_spacing c ≡ false) × (is_private_use c ≡ false)
Spacing x (PrivateUse c) = (x ≡ c) × (c ≡ 0 → ⊥) × (has_character non_spacing c ≡ false) × (is_private_use c ≡ true)
Spacing x Undefined = Unit {0}

-- the bytes i and i + 1 of b are a code of a two-byte set ("A two-byte character needs its second byte in the same half"), at which the set z has
-- the character c, no mark
pub record Pair (cells b : List ℕ) (i z c : ℕ) : Type 0 where
  pub two : i + 1 < length b
  pub first : is_graphic (get_or b i 0) ≡ true
  pub second : (is_graphic (get_or b (i + 1) 0) && eqb (get_or b i 0 / 128) (get_or b (i + 1) 0 / 128)) ≡ true
  pub has : cell_at cells z (get_or b i 0 % 128 - 0x20) (get_or b (i + 1) 0 % 128 - 0x20) ≡ c
  pub some : c ≡ 0 → ⊥
  pub spacing : has_character non_spacing c ≡ false

-- an answer, where it is a character, is such a character before the byte `to`
abbrev pub PairReads : List ℕ → List ℕ → ℕ → ℕ → ℕ → Cell → Type 0
PairReads cells b i to z (Char c) = (i + 1 < to) × Pair cells b i z c × (is_private_use c ≡ false)
PairReads cells b i to z (PrivateUse c) = (i + 1 < to) × Pair cells b i z c × (is_private_use c ≡ true)
PairReads cells b i to z Undefined = Unit {0}

-- such a character of the Kanji set, from U+3000 to U+FFFF and not private-use: three bytes
pub record Ideograph (cells b : List ℕ) (i c : ℕ) : Type 0 where
  pub pair : Pair cells b i 0 c
  pub ordinary : is_private_use c ≡ false
  pub low : 0x3000 ≤ c
  pub high : c < 0x10000

-- what is known of a state: the sets in GL and GR are those of v, it says whether alphanumerics are narrow, and nothing waits
pub record Sees (v : Invoked) (g : Given) (s : State) : Type 0 where
  pub gl : v.gl ≡ get_or s.sets s.gl 0
  pub gr : v.gr ≡ get_or s.sets s.gr 0
  pub narrow : v.narrow ≡ is_narrow g s
  pub marks : s.out.marks ≡ []
  pub marks_at : s.out.marks_at ≡ 0
  pub repeat : s.out.repeat ≡ 0

-- the step at the byte j of b takes u bytes and writes the character l
abbrev pub Spells : List ℕ → List ℕ → ℕ → Invoked → ℕ → ℕ → Type 0
Spells cells b j v u l = (g : Given) → g.cells ≡ cells → (left : ℕ) (R : Run) (place at : ℕ) (s : State) → Sees v g s
    → took u (writes (emit l) s) ≡ step g left R (get_or b j 0) (drop (j + 1) b) place at s

-- that character's bytes are before the byte `to`, and it is at most three bytes of text for each
pub record Reads (cells b : List ℕ) (j to : ℕ) (v : Invoked) (u l : ℕ) : Type 0 where
  pub some : 1 ≤ u
  pub within : j + u ≤ to
  pub most : length (utf8 l) ≤ 3 * u
  pub spells : Spells cells b j v u l

-- an answer of u bytes, where it is a character, is what is read there
abbrev pub Takes : List ℕ → List ℕ → ℕ → ℕ → Invoked → ℕ → Cell → Type 0
Takes cells b j to v u (Char c) = Reads cells b j to v u c × (is_private_use c ≡ false)
Takes cells b j to v u (PrivateUse c) = Reads cells b j to v u c × (is_private_use c ≡ true)
Takes cells b j to v u Undefined = Unit {0}
