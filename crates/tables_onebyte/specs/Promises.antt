-- What is promised of the rules by which the one-byte tables are read and searched.
use Rattle.std.specs.Prelude.{ℕ, ◌+◌, ◌-◌, ◌≤◌, ◌<◌, cond, ◌&&◌, List, [], ◌∷◌, ◌≡◌, eqb, leb, get_or}
use Rattle.std.proofs.Math.Option.{Option, none, some}
use Rattle.tables_onebyte.specs.declared.Kana.{Kana}

-- a run of characters from the code 21 on, to the code last
unfoldable pub run_at : ℕ → ℕ → ℕ → ℕ
run_at first last c = cond (leb 0x21 c && leb c last) (first + (c - 0x21)) 0

-- the alphanumeric set, or its full-width forms: a run, but for 5C
unfoldable pub alphanumeric_at : ℕ → ℕ → ℕ → ℕ
unfolding run_at
alphanumeric_at first yen c = cond (eqb c 0x5C) yen (run_at first 0x7E c)

-- `HIRAGANA` and `KATAKANA`
abbrev pub hiragana_set : Kana
hiragana_set = record { first = 0x3041; last = 0x73; iteration = 0x309D }

abbrev pub katakana_set : Kana
katakana_set = record { first = 0x30A1; last = 0x76; iteration = 0x30FD }

-- the characters of a kana set at 77 to 7E
abbrev pub signs : ℕ → List ℕ
signs iteration = iteration ∷ (iteration + 1) ∷ 0x30FC ∷ 0x3002 ∷ 0x300C ∷ 0x300D ∷ 0x3001 ∷ 0x30FB ∷ []

-- a kana set
unfoldable pub kana_at : Kana → ℕ → ℕ
unfolding run_at
kana_at k c = cond (leb 0x77 c) (get_or (signs k.iteration) (c - 0x77) 0) (run_at k.first k.last c)

-- the numbers of a kana set: characters, and a run that ends before the signs
pub record KanaFits (k : Kana) : Type 0 where
  pub first_from : 1 ≤ k.first
  pub first_to : k.first < 0x10000
  pub last_from : 0x21 ≤ k.last
  pub last_to : k.last < 0x77
  pub iteration_from : 1 ≤ k.iteration
  pub iteration_to : k.iteration < 0x10000

-- the code, a GL code, reads as the character c, where a code d reads as f d
pub record Reads (f : ℕ → ℕ) (c code : ℕ) : Type 0 where
  pub from : 0x21 ≤ code
  pub to : code ≤ 0x7E
  pub character : 1 ≤ c
  pub reads : f code ≡ c

-- an answer for c: a code that reads as c, or none, where no code does
abbrev pub Inverse : (ℕ → ℕ) → ℕ → Option ℕ → Type 0
Inverse f c (some code) = Reads f c code
Inverse f c none = (code : ℕ) → f code ≡ c → c ≡ 0
