-- The laws of lines, as statements. proofs/Laws.antt proves each under its name.
use Rattle.std.specs.Prelude.{ℕ, ◌<◌, ◌≡◌, List, [], ◌∷◌, ◌++◌, length, take}
use Rattle.std.proofs.Math.Option.{none, some}
use Rattle.key.specs.Key.{Lent, outcome}
use Rattle.keys_form.specs.Line.{answer_text}
use Rattle.keys_lines.specs.Line.{printed}

-- a byte does not stand in a list
abbrev pub Lacks : ℕ → List ℕ → Type 0
Lacks x [] = Unit {0}
Lacks x (y ∷ l) = (y ≡ x → ⊥) × Lacks x l

-- a line of more than 131,082 bytes is malformed, so that its bytes need not be kept
abbrev pub LongMalformed : Type 0
LongMalformed = (cells line : List ℕ) → 131082 < length line → printed cells line ≡ none

-- a line that ends in its only newline
pub record Line (text : List ℕ) : Type 0 where
  pub front : List ℕ
  pub ends : text ≡ front ++ (0x0A ∷ [])
  pub only : Lacks 0x0A front

-- what is printed for a line is one line
abbrev pub OneLine : Type 0
OneLine = (cells line text : List ℕ) → printed cells line ≡ some text → Line text

-- a key has no space, and so is no refusal
abbrev pub KeyLacksSpace : Type 0
KeyLacksSpace = (c : Lent) → (outcome c).refused ≡ 0 → Lacks 0x20 (answer_text (outcome c).refused (take (outcome c).len (outcome c).buffer))
