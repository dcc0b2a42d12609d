-- Every broadcaster's arrangement: request 10 of docs/REQUESTS.md. However a station arranges designations, locking shifts, size controls and single
-- shifts, what it codes is read, keyed and found as one text. proofs/Arrangements.antt proves each statement under its name.
use Rattle.std.specs.Prelude.{ℕ, ◌≤◌, ◌≡◌, cond, List, [], eqb, leb, length}
use Rattle.private_use.specs.PrivateUse.{private_use}
use Rattle.utf8.specs.Utf8.{scalars, utf8s}
use Rattle.questions.specs.Buffer.{padded}
use Rattle.reading.specs.Call as reading
use Rattle.coding.specs.Call as coding
use Rattle.laws_coding.specs.Coding.{AcceptedText}
use Rattle.laws_readback.specs.ReadBack.{Codes, decoding, given}
use Rattle.key_text.specs.KeyText.{key_text}
use Rattle.key.specs.Key as key
use Rattle.catalogue.specs.Catalogue as catalogue
use Rattle.catalogue.specs.Laws.{Small}

-- an admissible coding of an accepted text, "within 65,535 bytes"
pub record Arranged (c : coding.Lent) (bs : List ℕ) : Type 0 where
  pub accepted : AcceptedText c
  pub admissible : Codes c bs
  pub within : length bs ≤ 65535

-- ---- Reading

-- "every admissible coding of an accepted text reads as that text with no issue when it is within 65,535 bytes and the buffers suffice": with charge 0
-- and the text's count of private-use characters, under the options and the cell table "used to choose the candidates"
abbrev pub EveryArrangement : Type 0
EveryArrangement =
    (c : coding.Lent) (bs : List ℕ) (text_room issue_room : ℕ) → Arranged c bs → length c.text ≤ text_room
    → reading.outcome (decoding c bs text_room issue_room) ≡ given c text_room issue_room

-- ---- Keys

-- the key call on bs, under the same options and cell table
abbrev pub keying : coding.Lent → List ℕ → ℕ → key.Lent
keying c bs room = record { cells = c.cells; initial = c.initial; width = c.width; input = bs; room = room }

-- the key of the text
abbrev pub key_of : coding.Lent → List ℕ
key_of c = utf8s (key_text (scalars c.text))

-- a refused key call
abbrev pub refused : ℕ → ℕ → key.Outcome
refused number room = record { refused = number; len = 0; charged = 0; buffer = padded room [] }

-- what a text alone decides: 8 where the buffer does not hold it, else 11 where it has a private-use character, else its key
abbrev pub keyed : coding.Lent → ℕ → key.Outcome
keyed c room =
    cond (leb (length c.text) room)
    (cond (eqb (private_use (scalars c.text)) 0) (record { refused = 0; len = length (key_of c); charged = 0; buffer = padded room (key_of c) }) (refused 11 room))
    (refused 8 room)

-- that is what the key call gives of every arrangement
abbrev pub EveryKey : Type 0
EveryKey = (c : coding.Lent) (bs : List ℕ) (room : ℕ) → Arranged c bs → key.outcome (keying c bs room) ≡ keyed c room

-- "Two such codings therefore have the same key, or are both refused for private use", or both with 8: one outcome at every length of the buffer
pub data Alike (c : coding.Lent) (bs ds : List ℕ) (room : ℕ) : Type 0 where
  same_key : key.refusal (keying c bs room) ≡ 0 → key.refusal (keying c ds room) ≡ 0 → key.key_bytes (keying c bs room) ≡ key.key_bytes (keying c ds room) → Alike c bs ds room
  both_private : key.refusal (keying c bs room) ≡ 11 → key.refusal (keying c ds room) ≡ 11 → Alike c bs ds room
  both_small : key.refusal (keying c bs room) ≡ 8 → key.refusal (keying c ds room) ≡ 8 → Alike c bs ds room

pub record OneKey : Type 0 where
  pub outcome : (c : coding.Lent) (bs ds : List ℕ) (room : ℕ) → Arranged c bs → Arranged c ds → key.outcome (keying c bs room) ≡ key.outcome (keying c ds room)
  pub alike : (c : coding.Lent) (bs ds : List ℕ) (room : ℕ) → Arranged c bs → Arranged c ds → Alike c bs ds room

-- ---- A catalogue (request 8)

-- an add of a coding, under a number, to a store
abbrev pub adding : coding.Lent → List ℕ → ℕ → ℕ → List ℕ → catalogue.Lent
adding c bs room number store = record { keyed = keying c bs room; number = number; store = store }

-- it depends on the text alone: answer, store and buffer are the same for every arrangement
abbrev pub AddedAlike : Type 0
AddedAlike =
    (c : coding.Lent) (bs ds : List ℕ) (room number : ℕ) (store : List ℕ) → Arranged c bs → Arranged c ds
    → catalogue.added (adding c bs room number store) ≡ catalogue.added (adding c ds room number store)

-- one title from two stations, the second added to what the first was added to, is found under the key of its text, with both numbers
pub record FoundBoth (store k : List ℕ) (first second : ℕ) : Type 0 where
  pub refused : (catalogue.found store k).refused ≡ 0
  pub both : 2 ≤ (catalogue.found store k).entries
  pub least_first : (catalogue.found store k).number ≤ first
  pub least_second : (catalogue.found store k).number ≤ second

-- what the second add gives
abbrev pub both_added : coding.Lent → (bs ds : List ℕ) (room more first second : ℕ) → List ℕ → catalogue.Added
both_added c bs ds room more first second store = catalogue.added (adding c ds more second (catalogue.added (adding c bs room first store)).store)

abbrev pub StationsTogether : Type 0
StationsTogether =
    (c : coding.Lent) (bs ds : List ℕ) (room more first second : ℕ) (store : List ℕ) → Arranged c bs → Arranged c ds → Small first → Small second
    → (catalogue.added (adding c bs room first store)).refused ≡ 0 → (both_added c bs ds room more first second store).refused ≡ 0
    → FoundBoth (both_added c bs ds room more first second store).store (key_of c) first second
