-- A catalogue, and its bytes in the lent store: request 8 of docs/REQUESTS.md.
use Rattle.std.specs.Prelude.{ℕ, zero, suc, ◌+◌, ◌*◌, ◌/◌, ◌%◌, Bool, true, ◌&&◌, List, [], ◌∷◌, ◌++◌, leb, length, get_or, take, drop}
use Rattle.questions.specs.Buffer.{padded}
use Rattle.catalogue_distinct.specs.Distinct.{same, distinct}

-- "entries .., each a 32-bit number of the customer's own and a key of at most 255 bytes"
pub record Entry : Type 0 where
  pub number : ℕ
  pub key : List ℕ

-- the keys of entries
abbrev pub keys : List Entry → List (List ℕ)
keys [] = []
keys (e ∷ es) = e.key ∷ keys es

-- an entry's number has 32 bits, and its key at most 255 bytes
abbrev pub fits : Entry → Bool
fits e = leb e.number 0xFFFFFFFF && leb (length e.key) 255

abbrev pub all_fit : List Entry → Bool
all_fit [] = true
all_fit (e ∷ es) = fits e && all_fit es

-- "by rising number": the first is at least m, and each is above the one before it
abbrev pub rising : ℕ → List Entry → Bool
rising m [] = true
rising m (e ∷ es) = leb m e.number && rising (suc e.number) es

-- "up to 1,024 entries", by rising number
abbrev pub is_catalogue : List Entry → Bool
is_catalogue es = leb (length es) 1024 && (rising 0 es && all_fit es)

-- "numbers big-endian": the four bytes of a number, and the number that the first four bytes of a list are
abbrev pub big_endian : ℕ → List ℕ
big_endian n = n / 16777216 ∷ n / 65536 % 256 ∷ n / 256 % 256 ∷ n % 256 ∷ []

abbrev pub value : List ℕ → ℕ
value l = ((get_or l 0 0 * 256 + get_or l 1 0) * 256 + get_or l 2 0) * 256 + get_or l 3 0

-- "places of number, one byte of length and 255 of key, any bytes": 260 bytes, "all else is zero"
abbrev pub place : Entry → List ℕ
place e = big_endian e.number ++ (length e.key ∷ padded 255 e.key)

abbrev pub places : List Entry → List ℕ
places [] = []
places (e ∷ es) = place e ++ places es

-- "four bytes count the entries, four the distinct keys, then places ..; entries stand first .., all else is zero": 266,248 bytes
unfoldable pub bytes : List Entry → List ℕ
bytes es = big_endian (length es) ++ (big_endian (distinct (keys es)) ++ padded 266240 (places es))

-- the entry that a place says, the entries that so many places say, and those that a store says
abbrev pub entry_of : List ℕ → Entry
entry_of l = record { number = value l; key = take (get_or l 4 0) (drop 5 l) }

unfoldable pub entries_of : ℕ → List ℕ → List Entry
entries_of zero l = []
entries_of (suc n) l = entry_of l ∷ entries_of n (drop 260 l)

unfoldable pub entries : List ℕ → List Entry
unfolding entries_of
entries store = entries_of (value store) (drop 8 store)

-- "of another length or form, held count included": a store is of the form where what it says is a catalogue, and its bytes are that catalogue's
unfoldable pub formed : List ℕ → Bool
unfolding entries bytes
formed store = is_catalogue (entries store) && same store (bytes (entries store))
