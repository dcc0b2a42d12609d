-- Reading back: demand 2, "Accepted text, coded and then decoded with the same options and cell table and enough buffer, is that text again with
-- no issue", of every admissible coding, however it arranges its controls. proofs/ReadBack.antt and proofs/Accepted.antt prove each statement
-- under its name.
use Rattle.std.specs.Prelude.{ℕ, ◌≤◌, ◌≡◌, true, false, List, [], eqb, length, None}
use Rattle.std.proofs.Math.Option.{none}
use Rattle.private_use.specs.PrivateUse.{private_use}
use Rattle.utf8.specs.Utf8.{first_fault, scalars}
use Rattle.questions.specs.Questions.{cells_hold}
use Rattle.questions.specs.Buffer.{padded}
use Rattle.coding.specs.State.{start}
use Rattle.coding.specs.Tokens.{tokens, baseless}
use Rattle.coding.specs.Admissible.{Admissible}
use Rattle.coding.specs.Call as coding
use Rattle.reading.specs.State.{State}
use Rattle.reading.specs.Steps.{decode}
use Rattle.reading.specs.Call as reading
use Rattle.laws_coding.specs.Coding.{returned}

-- bs is an admissible coding of the text: "It begins in the start state, under the call's options and cell table"
abbrev pub Codes : coding.Lent → List ℕ → Type 0
Codes c bs = Admissible (start c.initial) (coding.choices c) bs

-- "Has each mark a base after the last newline?"
abbrev pub Based : coding.Lent → Type 0
Based c = baseless false (tokens c.text) ≡ none

-- What questions 1, 2, 4 and 5 ask of a text, its options and its cell table. That each character has a candidate (6) follows where there is an
-- admissible coding; the other questions ask for room.
pub record PassesQuestions (c : coding.Lent) : Type 0 where
  pub cells : cells_hold c.cells ≡ true
  pub initial : c.initial ≤ 1
  pub width : c.width ≤ 1
  pub well_formed : first_fault c.text ≡ None
  pub based : Based c

-- a text that the coding call accepts passes them
abbrev pub AcceptedCall : Type 0
AcceptedCall = (c : coding.Lent) → (coding.outcome c).refused ≡ 0 → PassesQuestions c

-- the reading is the text's characters: nothing waits, nothing was reported, nothing charged
pub record ReadAs (c : coding.Lent) (s : State) : Type 0 where
  pub text : s.out.text ≡ scalars c.text
  pub marks : s.out.marks ≡ []
  pub issues : s.out.issues ≡ []
  pub charged : s.charged ≡ 0

-- every admissible coding of a text is read as the text, under the same options and cell table: on lists, of any length
abbrev pub ReadBack : Type 0
ReadBack = (c : coding.Lent) (bs : List ℕ) → Based c → Codes c bs → ReadAs c (decode (record { cells = c.cells; annex_e = eqb c.width 1; input = bs }) c.initial)

-- the decoding call on bs, under the same options and cell table
abbrev pub decoding : coding.Lent → List ℕ → ℕ → ℕ → reading.Lent
decoding c bs text_room issue_room = record { cells = c.cells; initial = c.initial; width = c.width; input = bs; text_room = text_room; issue_room = issue_room }

-- the outcome that gives the text back, with the count of its private-use characters and no issue
abbrev pub given : coding.Lent → ℕ → ℕ → reading.Outcome
given c text_room issue_room =
    record {
      refused = 0;
      text = length c.text;
      issues = 0;
      charged = 0;
      private_use = private_use (scalars c.text);
      text_buffer = padded text_room c.text;
      issue_buffer = padded issue_room [];
    }

-- the same of the decoding call, where the coding is within its 65,535 bytes and the text's buffer holds the text; any buffer holds no issue
abbrev pub CallReadBack : Type 0
CallReadBack =
    (c : coding.Lent) (bs : List ℕ) (text_room issue_room : ℕ) → PassesQuestions c → Codes c bs → length bs ≤ 65535 → length c.text ≤ text_room
    → reading.outcome (decoding c bs text_room issue_room)
    ≡ given c text_room issue_room

-- so the coding that a call returns is read as the text that the call accepted
abbrev pub RoundTrip : Type 0
RoundTrip =
    (c : coding.Lent) (text_room issue_room : ℕ) → (coding.outcome c).refused ≡ 0 → length c.text ≤ text_room
    → reading.outcome (decoding c (returned c) text_room issue_room)
    ≡ given c text_room issue_room

-- two admissible codings of one text are one to the decoding call, whatever the buffers
abbrev pub OneOutcome : Type 0
OneOutcome =
    (c : coding.Lent) (ds bs : List ℕ) (text_room issue_room : ℕ) → Based c → Codes c ds → Codes c bs → length ds ≤ 65535 → length bs ≤ 65535
    → reading.outcome (decoding c ds text_room issue_room) ≡ reading.outcome (decoding c bs text_room issue_room)
