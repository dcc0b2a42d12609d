-- What the decoding call promises.
use Rattle.std.specs.Prelude.{ℕ, ◌≡◌, cond, List, [], leb, length, Result, Ok, Err}
use Rattle.private_use.specs.PrivateUse.{private_use}
use Rattle.utf8.specs.Utf8.{utf8s}
use Rattle.questions.specs.declared.refusal.Refusal.{Refusal}
use Rattle.questions.specs.Refusal.{refused, refused_at}
use Rattle.questions.specs.Buffer.{padded}
use Rattle.issues.specs.Issue.{issues_numbers}
use Rattle.reading.specs.State.{State}
use Rattle.reading.specs.Call.{Lent, outcome}
use Rattle.decode_read.specs.declared.Counts.{Counts}

-- 8 where the text does not fit, 9 where the issues do not, else 0
unfoldable pub fits_in : ℕ → ℕ → ℕ → ℕ → ℕ
fits_in text issues text_room issue_room = cond (leb text text_room) (cond (leb issues issue_room) 0 9) 8

-- what the call answers: what was counted, or the first question that fails
abbrev pub Answer : Type 0
Answer = Result Counts Refusal

-- an answer's values by case: the number of the refusal, 0 where there is none, and its place; the counts, 0 in a refusal
abbrev pub number_of : Answer → ℕ
number_of = refused

abbrev pub place_of : Answer → ℕ
place_of = refused_at

abbrev pub text_of : Answer → ℕ
text_of (Ok counts) = counts.text
text_of (Err e) = 0

abbrev pub issues_of : Answer → ℕ
issues_of (Ok counts) = counts.issues
issues_of (Err e) = 0

abbrev pub charged_of : Answer → ℕ
charged_of (Ok counts) = counts.charged
charged_of (Err e) = 0

abbrev pub private_use_of : Answer → ℕ
private_use_of (Ok counts) = counts.private_use
private_use_of (Err e) = 0

-- that answer which has an answer's values
abbrev pub Decoded : Answer → Answer
Decoded r = Ok (record { text = text_of r; issues = issues_of r; charged = charged_of r; private_use = private_use_of r })

-- a refusal: which, and zeros throughout
pub record Refuses (e : Refusal) (t i : List ℕ) (r : Answer) (t' i' : List ℕ) : Type 0 where
  pub answer : r ≡ Err e
  pub text : t' ≡ padded (length t) []
  pub issues : i' ≡ padded (length i) []

-- what is written at s, as the answer of a call with so much room
pub record Answers (s : State) (text_room issue_room : ℕ) (r : Answer) (t i : List ℕ) : Type 0 where
  pub number : number_of r ≡ fits_in (length (utf8s s.out.text)) (length (issues_numbers s.out.issues)) text_room issue_room
  pub place : place_of r ≡ 0
  pub case : number_of r ≡ 0 → r ≡ Decoded r
  pub accepted : number_of r ≡ 0 → (text_of r ≡ length (utf8s s.out.text)) × (issues_of r ≡ length s.out.issues) × (charged_of r ≡ s.charged) ×
      (private_use_of r ≡ private_use s.out.text) × (t ≡ padded text_room (utf8s s.out.text)) × (i ≡ padded issue_room (issues_numbers s.out.issues))
  pub refused : (number_of r ≡ 0 → ⊥) → (text_of r ≡ 0) × (issues_of r ≡ 0) × (charged_of r ≡ 0) × (private_use_of r ≡ 0) × (t ≡ padded text_room []) ×
      (i ≡ padded issue_room [])

-- what a call is lent
abbrev pub lent : List ℕ → ℕ → ℕ → List ℕ → List ℕ → List ℕ → Lent
lent cells initial width input text issues = record { cells = cells; initial = initial; width = width; input = input; text_room = length text; issue_room = length issues }

-- every number of the answer, which is `Ok` where none is refused, and every element of both buffers
pub record Answered (c : Lent) (r : Answer) (text issues : List ℕ) : Type 0 where
  pub number : number_of r ≡ (outcome c).refused
  pub case : number_of r ≡ 0 → r ≡ Decoded r
  pub place : place_of r ≡ 0
  pub counted : text_of r ≡ (outcome c).text
  pub reported : issues_of r ≡ (outcome c).issues
  pub charged : charged_of r ≡ (outcome c).charged
  pub private_use : private_use_of r ≡ (outcome c).private_use
  pub written : text ≡ (outcome c).text_buffer
  pub listed : issues ≡ (outcome c).issue_buffer
