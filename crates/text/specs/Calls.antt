-- What the exported calls leave: the number of the refusal, the counts, and every element of what was lent.
use Rattle.std.specs.Prelude.{ℕ, ◌≡◌, List, [], ◌∷◌, length, take, drop}
use Rattle.reading.specs.Call.{Lent, Outcome, outcome, escape_part}
use Rattle.reading.specs.WithoutBuffers as unbuffered
use Rattle.coding.specs.Call as coding
use Rattle.measure.specs.Measure as measure
use Rattle.clean.specs.Clean as clean
use Rattle.key.specs.Key as key
use Rattle.catalogue.specs.Catalogue as catalogue
use Rattle.bookmark.specs.Bookmark as bookmark
use Rattle.text_counts.specs.Counts.{fronted, escape_start}

-- The counts of a decoding: place, bytes of text, issues, charge, private-use characters. "A refusal gives the number and the byte place (0 except for 4, 5, 6), with all counts
-- 0"; decoding asks none of 4, 5 and 6.
unfoldable pub counts : Outcome → List ℕ
counts o = 0 ∷ o.text ∷ o.issues ∷ o.charged ∷ o.private_use ∷ []

-- the number of the refusal as the result (0: none), the counts, and every element of both buffers
pub record Decodes (c : Lent) (before : List ℕ) (r : ℕ) (text issues after : List ℕ) : Type 0 where
  pub number : r ≡ (outcome c).refused
  pub counted : after ≡ fronted before (counts (outcome c))
  pub written : text ≡ (outcome c).text_buffer
  pub listed : issues ≡ (outcome c).issue_buffer

-- the part's length as the result, its start and length as the counts, and the part that these name
pub record Escapes (input : List ℕ) (start len : ℕ) (before : List ℕ) (r : ℕ) (after : List ℕ) : Type 0 where
  pub long : r ≡ length (escape_part input start len)
  pub counted : after ≡ fronted before (escape_start (length input) start len ∷ r ∷ [])
  pub names : take r (drop (escape_start (length input) start len) input) ≡ escape_part input start len

-- The counts of a measuring call: place, bytes of text, issues, charge. It asks none of 4, 5 and 6.
unfoldable pub measure_counts : measure.Outcome → List ℕ
measure_counts o = 0 ∷ o.text ∷ o.issues ∷ o.charged ∷ []

-- the number of the refusal as the result (0: none), and the counts
pub record Measures (c : unbuffered.Lent) (before : List ℕ) (r : ℕ) (after : List ℕ) : Type 0 where
  pub number : r ≡ (measure.outcome c).refused
  pub counted : after ≡ fronted before (measure_counts (measure.outcome c))

-- The counts of a clean call: place, and 1 for yes or 0. It asks none of 4, 5 and 6.
unfoldable pub clean_counts : clean.Outcome → List ℕ
clean_counts o = 0 ∷ o.clean ∷ []

-- the number of the refusal as the result (0: none), and the counts
pub record Cleans (c : unbuffered.Lent) (before : List ℕ) (r : ℕ) (after : List ℕ) : Type 0 where
  pub number : r ≡ (clean.outcome c).refused
  pub counted : after ≡ fronted before (clean_counts (clean.outcome c))

-- The counts of a key: place, bytes of the key, charge. A key asks none of 4, 5 and 6.
unfoldable pub key_counts : key.Outcome → List ℕ
key_counts o = 0 ∷ o.len ∷ o.charged ∷ []

-- the number of the refusal as the result (0: none), the counts, and every byte of the buffer
pub record Keys (c : key.Lent) (before : List ℕ) (r : ℕ) (buffer after : List ℕ) : Type 0 where
  pub number : r ≡ (key.outcome c).refused
  pub counted : after ≡ fronted before (key_counts (key.outcome c))
  pub written : buffer ≡ (key.outcome c).buffer

-- The counts of an add: those of its key. It asks none of 4, 5 and 6.
unfoldable pub add_counts : catalogue.Added → List ℕ
add_counts o = 0 ∷ o.len ∷ o.charged ∷ []

-- the number of the refusal as the result (0: none), the counts, and every byte of store and buffer
pub record Adds (c : catalogue.Lent) (before : List ℕ) (r : ℕ) (store buffer after : List ℕ) : Type 0 where
  pub number : r ≡ (catalogue.added c).refused
  pub counted : after ≡ fronted before (add_counts (catalogue.added c))
  pub stored : store ≡ (catalogue.added c).store
  pub written : buffer ≡ (catalogue.added c).buffer

-- the number of the refusal as the result (0: none), and every byte of the store
pub record Removes (before : List ℕ) (number r : ℕ) (after : List ℕ) : Type 0 where
  pub refused : r ≡ (catalogue.removed before number).refused
  pub stored : after ≡ (catalogue.removed before number).store

-- The counts of a find: place, entries that have the key, the smallest of their numbers. It asks none of 4, 5 and 6.
unfoldable pub find_counts : catalogue.Found → List ℕ
find_counts o = 0 ∷ o.entries ∷ o.number ∷ []

-- the number of the refusal as the result (0: none), and the counts
pub record Finds (store k before : List ℕ) (r : ℕ) (after : List ℕ) : Type 0 where
  pub number : r ≡ (catalogue.found store k).refused
  pub counted : after ≡ fronted before (find_counts (catalogue.found store k))

-- the number of the refusal as the result (0: none), the place as the only count, 0, and every number of the store: a setting asks none of 4, 5 and 6
pub record Sets (c : bookmark.Setting) (before : List ℕ) (r : ℕ) (store after : List ℕ) : Type 0 where
  pub number : r ≡ (bookmark.was_set c).refused
  pub counted : after ≡ fronted before (0 ∷ [])
  pub stored : store ≡ (bookmark.was_set c).store

-- the number of the refusal as the result (0: none), the counts as a decoding has them, and every element of both buffers
pub record Returns (c : bookmark.Returning) (before : List ℕ) (r : ℕ) (text issues after : List ℕ) : Type 0 where
  pub number : r ≡ (bookmark.returned c).refused
  pub counted : after ≡ fronted before (counts (bookmark.returned c))
  pub written : text ≡ (bookmark.returned c).text_buffer
  pub listed : issues ≡ (bookmark.returned c).issue_buffer

-- The counts of a coding: place, bytes of the coding, gap.
unfoldable pub coding_counts : coding.Outcome → List ℕ
coding_counts o = o.place ∷ o.length ∷ o.gap ∷ []

-- the number of the refusal as the result (0: none), the counts, and every element of store and buffer
pub record Codes (c : coding.Lent) (before : List ℕ) (r : ℕ) (store buffer after : List ℕ) : Type 0 where
  pub number : r ≡ (coding.outcome c).refused
  pub counted : after ≡ fronted before (coding_counts (coding.outcome c))
  pub written : buffer ≡ (coding.outcome c).buffer
  pub cleared : store ≡ (coding.outcome c).store
