-- What holds of a catalogue over several calls, as statements: request 8 of docs/REQUESTS.md. proofs/Laws.antt proves them.
use Rattle.std.specs.Prelude.{ℕ, suc, ◌≤◌, ◌≡◌, true, false, cond, List, [], ◌∷◌, leb, length, drop, replicate}
use Rattle.questions.specs.Buffer.{padded}
use Rattle.base.specs.Lists.{All}
use Rattle.key_text.specs.Laws.{SameButWidths}
use Rattle.catalogue_distinct.specs.Distinct.{distinct}
use Rattle.catalogue_form.specs.Form.{Entry, is_catalogue, keys, value, bytes, entries, formed}
use Rattle.catalogue_form.specs.Entries.{numbered, having}
use Rattle.key.specs.Key as key
use Rattle.catalogue.specs.Catalogue.{Lent, added, removed, found}

-- a number of 32 bits
abbrev pub Small : ℕ → Type 0
Small n = n ≤ 0xFFFFFFFF

-- ---- the form

-- "all else is zero": the store of no entries
abbrev pub empty : List ℕ
empty = replicate 266248 0

-- a store is of the form exactly where it is the bytes of a catalogue, and of one only; the empty one is that of no entries
pub record FormMeans : Type 0 where
  pub form : (es : List Entry) → is_catalogue es ≡ true → formed (bytes es) ≡ true
  pub one : (es : List Entry) → is_catalogue es ≡ true → entries (bytes es) ≡ es
  pub only : (store : List ℕ) → formed store ≡ true → (is_catalogue (entries store) ≡ true) × (store ≡ bytes (entries store))
  pub none : bytes [] ≡ empty

-- the three calls, with what each is lent beside the store
pub data Call : Type 0 where
  add : key.Lent → ℕ → Call
  remove : ℕ → Call
  find : List ℕ → Call

-- the store after a call, and after several
abbrev pub after : Call → List ℕ → List ℕ
after (add k n) store = (added (record { keyed = k; number = n; store = store })).store
after (remove n) store = (removed store n).store
after (find k) store = store

abbrev pub after_all : List Call → List ℕ → List ℕ
after_all [] store = store
after_all (c ∷ cs) store = after_all cs (after c store)

-- an entry's number has 32 bits
abbrev pub SmallCall : Call → Type 0
SmallCall (add k n) = Small n
SmallCall (remove n) = Unit {0}
SmallCall (find k) = Unit {0}

-- "The held count of distinct keys equals a fresh count after any sequence of calls."
pub record Kept (store : List ℕ) : Type 0 where
  pub form : formed store ≡ true
  pub counted : value (drop 4 store) ≡ distinct (keys (entries store))

abbrev pub FormKept : Type 0
FormKept = (cs : List Call) → All SmallCall cs → Kept (after_all cs empty)

-- ---- the questions

-- "A store of another length or form, held count included, is 12 before anything else. Question failures of the key come next; then a number already
-- present on adding or absent on removing is 12, an added key over 255 bytes 13, and an add while 1,024 entries are present 14."
pub record CatalogueQuestions : Type 0 where
  pub add_form : (c : Lent) → formed c.store ≡ false → (added c).refused ≡ 12
  pub remove_form : (store : List ℕ) (n : ℕ) → formed store ≡ false → (removed store n).refused ≡ 12
  pub find_form : (store k : List ℕ) → formed store ≡ false → (found store k).refused ≡ 12
  pub add_key : (c : Lent) (q : ℕ) → formed c.store ≡ true → key.refusal c.keyed ≡ suc q → (added c).refused ≡ suc q
  pub add_entry : (c : Lent) → formed c.store ≡ true → key.refusal c.keyed ≡ 0 → (added c).refused ≡
      cond (numbered c.number (entries c.store)) 12 (cond (leb (length (key.key_bytes c.keyed)) 255) (cond (leb 1024 (length (entries c.store))) 14 0) 13)
  pub remove_number : (store : List ℕ) (n : ℕ) → formed store ≡ true → (removed store n).refused ≡ cond (numbered n (entries store)) 0 12

-- "Every refusal leaves the catalogue untouched", and the key call's buffer zero
pub record RefusalsKeep : Type 0 where
  pub add : (c : Lent) (q : ℕ) → (added c).refused ≡ suc q → ((added c).store ≡ c.store) × ((added c).buffer ≡ padded c.keyed.room [])
  pub remove : (store : List ℕ) (n q : ℕ) → (removed store n).refused ≡ suc q → (removed store n).store ≡ store

-- ---- adding, removing and finding

-- what is added is found: one entry more has its key, and the smallest number is not above its own
pub record FoundAfter (c : Lent) : Type 0 where
  pub refused : (found (added c).store (key.key_bytes c.keyed)).refused ≡ 0
  pub one_more : (found (added c).store (key.key_bytes c.keyed)).entries ≡ suc (found c.store (key.key_bytes c.keyed)).entries
  pub least : (found (added c).store (key.key_bytes c.keyed)).number ≤ c.number

abbrev pub AddFind : Type 0
AddFind = (c : Lent) → Small c.number → (added c).refused ≡ 0 → FoundAfter c

-- "removed by number": what was added is gone, and every byte is as before
pub record RemovedAfter (c : Lent) : Type 0 where
  pub refused : (removed (added c).store c.number).refused ≡ 0
  pub again : (removed (added c).store c.number).store ≡ c.store

abbrev pub AddRemove : Type 0
AddRemove = (c : Lent) → Small c.number → (added c).refused ≡ 0 → RemovedAfter c

-- "the count and the smallest number that has it, both 0 if none has": no entry that has the key has a smaller number, and one has this
pub record Least (es : List Entry) (n : ℕ) : Type 0 where
  pub none : length es ≡ 0 → n ≡ 0
  pub low : All (λ e. n ≤ e.number) es
  pub reached : (m : ℕ) → length es ≡ suc m → All (λ e. suc n ≤ e.number) es → ⊥

pub record FindMeans (store k : List ℕ) : Type 0 where
  pub refused : (found store k).refused ≡ 0
  pub counted : (found store k).entries ≡ length (having k (entries store))
  pub least : Least (having k (entries store)) (found store k).number

abbrev pub FindCounts : Type 0
FindCounts = (store k : List ℕ) → formed store ≡ true → FindMeans store k

-- two titles that have one key, the second added to what the first was added to, are found together
pub record Together (c d : Lent) : Type 0 where
  pub refused : (found (added d).store (key.key_bytes c.keyed)).refused ≡ 0
  pub both : 2 ≤ (found (added d).store (key.key_bytes c.keyed)).entries
  pub first : (found (added d).store (key.key_bytes c.keyed)).number ≤ c.number
  pub second : (found (added d).store (key.key_bytes c.keyed)).number ≤ d.number

abbrev pub FoundTogether : Type 0
FoundTogether = (c d : Lent) → Small c.number → Small d.number → (added c).refused ≡ 0 → d.store ≡ (added c).store → (added d).refused ≡ 0
    → key.key_bytes c.keyed ≡ key.key_bytes d.keyed → Together c d

-- with request 1: so are titles that are read as one text but for the widths of the 94 alphanumerics
abbrev pub EitherWidth : Type 0
EitherWidth = (c d : Lent) → Small c.number → Small d.number → (added c).refused ≡ 0 → d.store ≡ (added c).store → (added d).refused ≡ 0
    → SameButWidths (key.reading c.keyed).out.text (key.reading d.keyed).out.text → Together c d
