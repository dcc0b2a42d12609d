-- The questions of a key call in the paper's words, and titles that have one key, as statements. proofs/Laws.antt and proofs/OneKey.antt prove them.
use Rattle.std.specs.Prelude.{ℕ, suc, ◌≤◌, ◌≡◌, cond, List, [], ◌∷◌, eqb, leb, length}
use Rattle.questions.specs.Questions.{first_refusal, decode_limit}
use Rattle.private_use.specs.PrivateUse.{private_use}
use Rattle.key_text.specs.KeyText.{key_text}
use Rattle.key_text.specs.Laws.{SameButWidths}
use Rattle.key.specs.Key.{Lent, reading, text_bytes, key_bytes, refusal, outcome}

-- the first of questions 1, 2 and 3 that fails
abbrev pub first_of : Lent → ℕ
first_of c = first_refusal c.cells c.initial c.width decode_limit (length c.input)

-- "Does the whole text .. fit its buffer (for a key, the text before removal)? If no, 8." "For a key, is the decoding free of issues? If no, 10." "A key
-- with any such character is refused after question 10: number 11."
pub record Questions (c : Lent) : Type 0 where
  pub first : (q : ℕ) → first_of c ≡ suc q → refusal c ≡ suc q
  pub rest : first_of c ≡ 0 → refusal c ≡
      cond (leb (length (text_bytes c)) c.room) (cond (eqb (length (reading c).out.issues) 0) (cond (eqb (private_use (reading c).out.text) 0) 0 11) 10) 8

abbrev pub KeyQuestions : Type 0
KeyQuestions = (c : Lent) → Questions c

-- no key that is given has a private-use character: removal and folding make none
abbrev pub KeyOrdinary : Type 0
KeyOrdinary = (c : Lent) → (outcome c).refused ≡ 0 → private_use (key_text (reading c).out.text) ≡ 0

-- titles that are read as one text, but for the widths of the 94 alphanumerics, have one key
abbrev pub ReadingsOneKey : Type 0
ReadingsOneKey = (c d : Lent) → SameButWidths (reading c).out.text (reading d).out.text → key_bytes c ≡ key_bytes d

-- `0E 41`, which is Ａ, or A under AnnexE, and `89 0E 41`, which is A
abbrev pub wide : List ℕ → ℕ → ℕ → ℕ → Lent
wide cells initial width room = record { cells = cells; initial = initial; width = width; input = 0x0E ∷ 0x41 ∷ []; room = room }

abbrev pub narrow : List ℕ → ℕ → ℕ → ℕ → Lent
narrow cells initial width room = record { cells = cells; initial = initial; width = width; input = 0x89 ∷ 0x0E ∷ 0x41 ∷ []; room = room }

-- "Ａ and A are to give one key": both have the key A, and one outcome in every buffer that holds Ａ
pub record OneLetter (cells : List ℕ) (initial width room : ℕ) : Type 0 where
  pub wide_key : key_bytes (wide cells initial width room) ≡ 0x41 ∷ []
  pub narrow_key : key_bytes (narrow cells initial width room) ≡ 0x41 ∷ []
  pub one : 3 ≤ room → outcome (wide cells initial width room) ≡ outcome (narrow cells initial width room)

-- whatever the options and the table
abbrev pub LetterOneKey : Type 0
LetterOneKey = (cells : List ℕ) (initial width room : ℕ) → OneLetter cells initial width room
