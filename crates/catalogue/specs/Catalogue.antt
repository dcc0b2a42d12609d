-- The three calls of a catalogue: request 8 of docs/REQUESTS.md.
use Rattle.std.specs.Prelude.{ℕ, zero, suc, Bool, true, false, cond, List, [], leb, length}
use Rattle.questions.specs.Buffer.{padded}
use Rattle.catalogue_form.specs.Form.{Entry, bytes, entries, formed}
use Rattle.catalogue_form.specs.Entries.{numbered, entered, without, having, smallest}
use Rattle.key.specs.Key as key

-- ---- "A title is added from its bytes"

-- what the caller lends: what a key call is lent, the entry's number, and the store
pub record Lent : Type 0 where
  pub keyed : key.Lent
  pub number : ℕ
  pub store : List ℕ

-- the entry of the title
abbrev pub titled : Lent → Entry
titled c = record { number = c.number; key = key.key_bytes c.keyed }

-- "then a number already present on adding .. is 12, an added key over 255 bytes 13, and an add while 1,024 entries are present 14"
abbrev pub entry_refusal : Bool → ℕ → ℕ → ℕ
entry_refusal present len n = cond present 12 (cond (leb len 255) (cond (leb 1024 n) 14 0) 13)

abbrev pub refusal_of : Entry → List Entry → ℕ
refusal_of e es = entry_refusal (numbered e.number es) (length e.key) (length es)

-- "Question failures of the key come next"
unfoldable pub key_refusal : ℕ → Lent → ℕ
key_refusal zero c = refusal_of (titled c) (entries c.store)
key_refusal (suc q) c = suc q

-- "A store of another length or form, held count included, is 12 before anything else."
unfoldable pub add_refusal : Lent → ℕ
unfolding formed key_refusal
add_refusal c = cond (formed c.store) (key_refusal (key.refusal c.keyed) c) 12

-- What the call gives: the number of the refusal (0: none), the key's length, the charge, the store and the key call's buffer.
pub record Added : Type 0 where
  pub refused : ℕ
  pub len : ℕ
  pub charged : ℕ
  pub store : List ℕ
  pub buffer : List ℕ

-- "Adding leaves the key in the key call's buffer." "Every refusal leaves the catalogue untouched."
unfoldable pub added_by : ℕ → Lent → Added
unfolding bytes
added_by zero c = record {
  refused = 0;
  len = (key.outcome c.keyed).len;
  charged = (key.outcome c.keyed).charged;
  store = bytes (entered (titled c) (entries c.store));
  buffer = (key.outcome c.keyed).buffer;
}
added_by (suc q) c = record { refused = suc q; len = 0; charged = 0; store = c.store; buffer = padded c.keyed.room [] }

unfoldable pub added : Lent → Added
unfolding added_by add_refusal
added c = added_by (add_refusal c) c

-- ---- "removed by number"

-- ".. or absent on removing is 12"
unfoldable pub remove_refusal : List ℕ → ℕ → ℕ
unfolding formed entries
remove_refusal store n = cond (formed store) (cond (numbered n (entries store)) 0 12) 12

pub record Removed : Type 0 where
  pub refused : ℕ
  pub store : List ℕ

unfoldable pub removed_by : ℕ → List ℕ → ℕ → Removed
unfolding bytes entries
removed_by zero store n = record { refused = 0; store = bytes (without n (entries store)) }
removed_by (suc q) store n = record { refused = suc q; store = store }

unfoldable pub removed : List ℕ → ℕ → Removed
unfolding removed_by remove_refusal
removed store n = removed_by (remove_refusal store n) store n

-- ---- "found by key bytes, giving the count and the smallest number that has it, both 0 if none has"

pub record Found : Type 0 where
  pub refused : ℕ
  pub entries : ℕ
  pub number : ℕ

unfoldable pub found_by : Bool → List Entry → List ℕ → Found
found_by true es k = record { refused = 0; entries = length (having k es); number = smallest (having k es) }
found_by false es k = record { refused = 12; entries = 0; number = 0 }

unfoldable pub found : List ℕ → List ℕ → Found
unfolding found_by formed entries
found store k = found_by (formed store) (entries store) k
