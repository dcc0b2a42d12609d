-- Worked examples, computed: a catalogue with the key A twice and AB once.
use Rattle.std.specs.Prelude.{ℕ, ◌≡◌, refl, false, List, [], ◌∷◌, length, take, drop}
use Rattle.questions.specs.Buffer.{padded}
use Rattle.catalogue_distinct.specs.Distinct.{distinct}
use Rattle.catalogue_form.specs.Form.{Entry, keys, rising, bytes, entries_of}
use Rattle.catalogue_form.specs.Entries.{entered, without, having, smallest}

abbrev entry : ℕ → List ℕ → Entry
entry number key = record { number = number; key = key }

abbrev seven : Entry
seven = entry 7 (0x41 ∷ [])

abbrev nine : Entry
nine = entry 0x10203 (0x41 ∷ 0x42 ∷ [])

abbrev last : Entry
last = entry 0xFFFFFFFF (0x41 ∷ [])

abbrev three : List Entry
three = seven ∷ nine ∷ last ∷ []

record Worked : Type 0 where
  -- three entries, two different keys; the first place: number 7, one byte of key
  front : take 15 (bytes three) ≡ 0 ∷ 0 ∷ 0 ∷ 3 ∷ 0 ∷ 0 ∷ 0 ∷ 2 ∷ 0 ∷ 0 ∷ 0 ∷ 7 ∷ 1 ∷ 0x41 ∷ 0 ∷ []
  -- 260 bytes on: number 10203 in hexadecimal, two bytes of key
  second : take 8 (drop 268 (bytes three)) ≡ 0 ∷ 1 ∷ 2 ∷ 3 ∷ 2 ∷ 0x41 ∷ 0x42 ∷ 0 ∷ []
  -- 528: the greatest number
  third : take 7 (drop 528 (bytes three)) ≡ 0xFF ∷ 0xFF ∷ 0xFF ∷ 0xFF ∷ 1 ∷ 0x41 ∷ 0 ∷ []
  -- and what those bytes say
  said : entries_of 3 (drop 8 (bytes three)) ≡ three
  -- in whatever order they are entered
  order : entered seven (entered last (entered nine [])) ≡ three
  -- a number twice does not rise
  twice : rising 0 (seven ∷ seven ∷ []) ≡ false
  -- a doubled key that is removed stays counted, a single one does not
  doubled : distinct (keys (without 7 three)) ≡ 2
  single : distinct (keys (without 0x10203 three)) ≡ 1
  -- A is found twice, 7 is its smallest number, wherever it stands; a zero behind it makes another key
  both : length (having (0x41 ∷ []) three) ≡ 2
  smallest_first : smallest (having (0x41 ∷ []) three) ≡ 7
  smallest_last : smallest (having (0x41 ∷ []) (last ∷ seven ∷ [])) ≡ 7
  zero_behind_lem : length (having (0x41 ∷ 0 ∷ []) three) ≡ 0

worked : Worked
unfolding bytes entries_of padded
worked =
    record {
      front = refl;
      second = refl;
      third = refl;
      said = refl;
      order = refl;
      twice = refl;
      doubled = refl;
      single = refl;
      both = refl;
      smallest_first = refl;
      smallest_last = refl;
      zero_behind_lem = refl;
    }
