-- The laws of keys, as statements. proofs/Laws.antt proves each under its name.
use Rattle.std.specs.Prelude.{ℕ, ◌≤◌, ◌≡◌, ◌⊎◌, List, [], ◌∷◌}
use Rattle.tables_onebyte.specs.OneByte.{one_byte_at, fullwidth_of}
use Rattle.tables_onebyte.specs.declared.OneByteTable.TheVariants.{Alphanumeric}
use Rattle.key_text.specs.KeyText.{key_text}

-- none of newline, U+0020 and U+3000 stands in a text
abbrev pub Without : List ℕ → Type 0
Without [] = Unit {0}
Without (c ∷ cs) = (c ≡ 0x0A → ⊥) × (c ≡ 0x20 → ⊥) × (c ≡ 0x3000 → ⊥) × Without cs

-- one of the 94 alphanumerics, and its full-width form
pub record Widths (half full : ℕ) : Type 0 where
  pub code : ℕ
  pub from : 0x21 ≤ code
  pub to : code ≤ 0x7E
  pub alphanumeric : one_byte_at Alphanumeric code ≡ half
  pub form : fullwidth_of half ≡ full

-- the full-width form of none of the 94 stands in a text
abbrev pub Halfwidth : List ℕ → Type 0
Halfwidth [] = Unit {0}
Halfwidth (c ∷ cs) = ((half : ℕ) → Widths half c → ⊥) × Halfwidth cs

-- a key holds none of the three
abbrev pub KeyWithout : Type 0
KeyWithout = (text : List ℕ) → Without (key_text text)

-- and no full-width form of one of the 94
abbrev pub KeyHalfwidth : Type 0
KeyHalfwidth = (text : List ℕ) → Halfwidth (key_text text)

-- a text without them is its own key
abbrev pub OwnKey : Type 0
OwnKey = (text : List ℕ) → Without text → Halfwidth text → key_text text ≡ text

-- so is every key
abbrev pub KeyOfKey : Type 0
KeyOfKey = (text : List ℕ) → key_text (key_text text) ≡ key_text text

-- one character, or the two widths of one of the 94
abbrev pub SameLetter : ℕ → ℕ → Type 0
SameLetter c d = (c ≡ d) ⊎ (Widths c d ⊎ Widths d c)

-- a text, and the same text with any of its 94 alphanumerics made full-width, or back
abbrev pub SameButWidths : List ℕ → List ℕ → Type 0
SameButWidths [] [] = Unit {0}
SameButWidths [] (d ∷ ds) = ⊥
SameButWidths (c ∷ cs) [] = ⊥
SameButWidths (c ∷ cs) (d ∷ ds) = SameLetter c d × SameButWidths cs ds

-- they have one key
abbrev pub WidthsOneKey : Type 0
WidthsOneKey = (s t : List ℕ) → SameButWidths s t → key_text s ≡ key_text t

-- and, but for the three, no other texts have one
abbrev pub OneKeyWidths : Type 0
OneKeyWidths = (s t : List ℕ) → Without s → Without t → key_text s ≡ key_text t → SameButWidths s t
