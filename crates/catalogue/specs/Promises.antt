-- What the functions of the three calls promise.
use Rattle.std.specs.Prelude.{ℕ, suc, ◌≡◌, List, [], length, Result, Ok, Err}
use Rattle.questions.specs.Refusal as refusals
use Rattle.questions.specs.Buffer.{padded}
use Rattle.catalogue_form.specs.Form.{Entry, bytes, entries}
use Rattle.catalogue_form.specs.Entries.{entered}
use Rattle.key.specs.Key as key
use Rattle.key.specs.Promises as keys
use Rattle.key.specs.Promises.{KeyAnswer}
use Rattle.key.specs.declared.Keyed.{Keyed}
use Rattle.questions.specs.declared.refusal.Refusal.{Refusal}
use Rattle.catalogue.specs.Catalogue.{Lent, refusal_of, added, removed, found}
use Rattle.catalogue.specs.declared.Found as answer

-- what an add is lent
abbrev pub lent : key.Lent → ℕ → List ℕ → Lent
lent k number store = record { keyed = k; number = number; store = store }

-- every number of the answer, which is `Ok` where none is refused, and every byte of store and buffer
pub record Added (c : Lent) (r : KeyAnswer) (store buffer : List ℕ) : Type 0 where
  pub number : keys.number_of r ≡ (added c).refused
  pub case : keys.number_of r ≡ 0 → r ≡ Ok (record { len = keys.len_of r; charged = keys.charged_of r })
  pub place : keys.place_of r ≡ 0
  pub counted : keys.len_of r ≡ (added c).len
  pub charged : keys.charged_of r ≡ (added c).charged
  pub stored : store ≡ (added c).store
  pub written : buffer ≡ (added c).buffer

-- an entry that is put into the store, or refused
pub record Entered (e : Entry) (k : Keyed) (before buffer : List ℕ) (r : KeyAnswer) (after left : List ℕ) : Type 0 where
  pub accepted : refusal_of e (entries before) ≡ 0 → (r ≡ Ok k) × ((after ≡ bytes (entered e (entries before))) × (left ≡ buffer))
  pub refused : (n : ℕ) → refusal_of e (entries before) ≡ suc n
      → ((x : Refusal) × (r ≡ Err x) × (refusals.number_of x ≡ suc n) × (refusals.place_of x ≡ 0)) × ((after ≡ before) × (left ≡ padded (length buffer) []))

-- the number of the refusal, its place, and every byte of the store
pub record Removed (before : List ℕ) (n : ℕ) (r : Result (Unit {0}) Refusal) (after : List ℕ) : Type 0 where
  pub number : refusals.refused r ≡ (removed before n).refused
  pub place : refusals.refused_at r ≡ 0
  pub stored : after ≡ (removed before n).store

-- a find's values by case, 0 in a refusal
abbrev pub entries_of : Result answer.Found Refusal → ℕ
entries_of (Ok f) = f.entries
entries_of (Err e) = 0

abbrev pub smallest_of : Result answer.Found Refusal → ℕ
smallest_of (Ok f) = f.number
smallest_of (Err e) = 0

-- every number of the answer
pub record Finds (store k : List ℕ) (r : Result answer.Found Refusal) : Type 0 where
  pub number : refusals.refused r ≡ (found store k).refused
  pub place : refusals.refused_at r ≡ 0
  pub counted : entries_of r ≡ (found store k).entries
  pub smallest : smallest_of r ≡ (found store k).number
