-- The store of bookmarks, and which numbers a reading can go on from: request 9 of docs/REQUESTS.md.
use Rattle.std.specs.Prelude.{ℕ, zero, suc, ◌+◌, ◌-◌, ◌*◌, Bool, true, ◌&&◌, List, eqb, leb, length, take, drop, get_or}
use Rattle.tables.specs.Kanji.{non_spacing, has_character}
use Rattle.reading.specs.Macros.{end_of, limit}
use Rattle.bookmark_form.specs.Numbers.{size}

-- "sixteen bookmarks"
abbrev pub names : ℕ
names = 16

-- the test passes below n
unfoldable pub all_below : ℕ → (ℕ → Bool) → Bool
all_below zero f = true
all_below (suc n) f = all_below n f && f n

-- "a store of another length or with a bookmark's first number above 1, is 15"
unfoldable pub is_store : List ℕ → Bool
unfolding all_below
is_store store = eqb (length store) (names * size) && all_below names (λ k. leb (get_or store (k * size) 0) 1)

-- a name's numbers
abbrev pub named : List ℕ → ℕ → List ℕ
named store name = take size (drop (name * size) store)

-- ---- Numbers that a reading of an input can have. Others are such as are not "as at the setting": what is promised of them is safety, and a return
-- refuses them with 15.

-- sets of the 32, elements of the four, and whether the size is narrow
unfoldable pub settings_hold : List ℕ → Bool
settings_hold l =
    leb (get_or l 2 0) 31 && (leb (get_or l 3 0) 31 && (leb (get_or l 4 0) 31 && (leb (get_or l 5 0) 31 && (leb (get_or l 6 0) 3 && (leb (get_or l 7 0) 3 && leb (get_or l 8 0) 1)))))

-- a place in the input, a repeat of six bits, at most sixteen marks, a charge within its limit, and a text of less than 2^31 bytes
unfoldable pub counts_hold : List ℕ → List ℕ → Bool
unfolding limit
counts_hold input l =
    leb (get_or l 1 0) (length input) && (leb (get_or l 9 0) 63 && (leb (get_or l 10 0) 16 && (leb (get_or l 284 0) (limit input) && leb (get_or l 285 0) 0x7FFFFFFF)))

-- marks of the seven
unfoldable pub marks_hold : List ℕ → Bool
unfolding all_below has_character
marks_hold l = all_below (get_or l 10 0) (λ k. has_character non_spacing (get_or l (12 + k) 0))

-- a body that lies in the input and has no 95 4F
unfoldable pub body_holds : List ℕ → ℕ → ℕ → Bool
unfolding end_of
body_holds input start len = leb (start + len) (length input) && eqb (end_of (take len (drop start input))) len

unfoldable pub bodies_hold : List ℕ → List ℕ → Bool
unfolding all_below body_holds
bodies_hold input l = all_below 128 (λ code. body_holds input (get_or l (28 + code) 0 - 1) (get_or l (156 + code) 0))

unfoldable pub resumable : List ℕ → List ℕ → Bool
unfolding settings_hold counts_hold marks_hold bodies_hold
resumable input l = settings_hold l && (counts_hold input l && (marks_hold l && bodies_hold input l))
