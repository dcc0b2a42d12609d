-- The characters in the order in which they are coded: encode.rs, "Tokenise".
use Rattle.std.specs.Prelude.{ℕ, ◌+◌, Bool, true, false, cond, not, List, [], ◌∷◌, eqb, length}
use Rattle.std.proofs.Math.Option.{Option, none, some}
use Rattle.tables.specs.Kanji.{non_spacing, has_character}
use Rattle.utf8.specs.Utf8.{utf8, scalars}

-- a character, and the place of its first byte in the text
pub record Token : Type 0 where
  pub place : ℕ
  pub char : ℕ

-- characters, the first of which stands at a place
unfoldable pub placed : ℕ → List ℕ → List Token
unfolding utf8
placed p [] = []
placed p (c ∷ cs) = record { place = p; char = c } ∷ placed (p + length (utf8 c)) cs

-- those of a text's bytes
unfoldable pub tokens : List ℕ → List Token
unfolding placed scalars
tokens text = placed 0 (scalars text)

-- "Marks move before their base, order kept": the characters after the base b, and b
unfoldable pub ordered : Token → List Token → List Token
unfolding has_character
ordered b [] = b ∷ []
ordered b (t ∷ ts) = cond (has_character non_spacing t.char) (t ∷ ordered b ts) (b ∷ ordered t ts)

unfoldable pub in_order : List Token → List Token
unfolding ordered
in_order [] = []
in_order (t ∷ ts) = ordered t ts

unfoldable pub chars : List Token → List ℕ
chars [] = []
chars (t ∷ ts) = t.char ∷ chars ts

-- "Has each mark a base after the last newline?": the place of the first that has none, where there is a base or not before the list
unfoldable pub baseless : Bool → List Token → Option ℕ
unfolding has_character
baseless base [] = none
baseless base (t ∷ ts) =
    elim (has_character non_spacing t.char) [
      | true ↦ elim base [ true ↦ baseless true ts | false ↦ some t.place ]
      | false ↦ baseless (not (eqb t.char 10)) ts
    ]
