-- What the functions of the key call promise.
use Rattle.std.specs.Prelude.{ℕ, ◌≡◌, List, T, length, Result, Ok, Err}
use Rattle.utf8.specs.Utf8.{are_scalars}
use Rattle.questions.specs.Questions.{first_refusal, decode_limit}
use Rattle.questions.specs.declared.refusal.Refusal.{Refusal}
use Rattle.questions.specs.Refusal.{refused, refused_at}
use Rattle.decode_read.specs.declared.Counts.{Counts}
use Rattle.decode.specs.Answers as decode
use Rattle.key.specs.Key.{Lent, decoding_of, reading, outcome}
use Rattle.key.specs.declared.Keyed.{Keyed}

-- what the call answers: the key, or the first question that fails
abbrev pub KeyAnswer : Type 0
KeyAnswer = Result Keyed Refusal

-- an answer's values by case: the number of the refusal, 0 where there is none, and its place; the key's length and the charge, 0 in a refusal
abbrev pub number_of : KeyAnswer → ℕ
number_of = refused

abbrev pub place_of : KeyAnswer → ℕ
place_of = refused_at

abbrev pub len_of : KeyAnswer → ℕ
len_of (Ok key) = key.len
len_of (Err e) = 0

abbrev pub charged_of : KeyAnswer → ℕ
charged_of (Ok key) = key.charged
charged_of (Err e) = 0

-- what a call is lent
abbrev pub lent : List ℕ → ℕ → ℕ → List ℕ → List ℕ → Lent
lent cells initial width input buffer = record { cells = cells; initial = initial; width = width; input = input; room = length buffer }

-- the decoding of what a key call is lent, with no room for issues, and its text in the buffer, of scalars where questions 1 to 3 are passed
pub record Decodes (c : Lent) (r : decode.Answer) (buffer : List ℕ) : Type 0 where
  pub room : length buffer ≡ c.room
  pub scalars : first_refusal c.cells c.initial c.width decode_limit (length c.input) ≡ 0 → T (are_scalars (reading c).out.text)
  pub issues : List ℕ
  pub answered : decode.Answered (decoding_of c) r buffer issues

-- every number of the answer, which is `Ok` where none is refused, and every byte of the buffer
pub record Answered (c : Lent) (r : KeyAnswer) (buffer : List ℕ) : Type 0 where
  pub number : number_of r ≡ (outcome c).refused
  pub case : number_of r ≡ 0 → r ≡ Ok (record { len = len_of r; charged = charged_of r })
  pub place : place_of r ≡ 0
  pub counted : len_of r ≡ (outcome c).len
  pub charged : charged_of r ≡ (outcome c).charged
  pub written : buffer ≡ (outcome c).buffer

-- the same, from a decoding that was accepted with these counts
abbrev pub FromText : Counts → List ℕ → KeyAnswer → List ℕ → Type 0
FromText decoded before r after = (c : Lent) → Decodes c (Ok decoded) before → Answered c r after
