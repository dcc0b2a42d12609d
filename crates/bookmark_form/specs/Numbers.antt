-- A bookmark's 287 numbers: request 9 of docs/REQUESTS.md, whose words are quoted.
use Rattle.std.specs.Prelude.{ℕ, zero, suc, ◌-◌, cond, List, [], ◌∷◌, ◌++◌, map, eqb, length, take, drop, get_or}
use Rattle.utf8.specs.Utf8.{utf8s}
use Rattle.questions.specs.Buffer.{padded}
use Rattle.decode_output.specs.Output.{Output}
use Rattle.reading.specs.State.{State}

-- "287 32-bit numbers"
abbrev pub size : ℕ
size = 287

-- "1 if set, place, sets of G0 to G3, GL and GR as 0 to 3, 1 if the size is Small, Middle or SZX 60, waiting repeat, count of waiting marks, the first
-- one's offset"
abbrev pub front : ℕ → State → List ℕ
front place s =
    1 ∷ place ∷ (s.sets ++ (s.gl ∷ s.gr ∷ cond s.narrow 1 0 ∷ s.out.repeat ∷ length s.out.marks ∷ s.out.marks_at ∷ []))

-- "by code 128 macro starts, each plus 1, .. 0 where there is none": a state has 0 for none, and no body starts there
unfoldable pub plus_one : ℕ → ℕ
plus_one zero = 0
plus_one (suc n) = suc (suc n)

-- "charge so far, text length without waiting marks, issues"
abbrev pub back : State → List ℕ
back s = s.charged ∷ length (utf8s s.out.text) ∷ length s.out.issues ∷ []

-- the numbers of a state between outermost steps, of which the next begins at a place: between the two "sixteen marks, .. macro starts, .. and 128
-- lengths"
unfoldable pub numbers : ℕ → State → List ℕ
unfolding padded plus_one
numbers place s = front place s ++ (padded 16 s.out.marks ++ (map plus_one s.starts ++ (s.lens ++ back s)))

-- ---- from the numbers

abbrev pub place_of : List ℕ → ℕ
place_of l = get_or l 1 0

abbrev pub text_length : List ℕ → ℕ
text_length l = get_or l 285 0

-- what waits, where nothing is written and no issue reported
abbrev pub waits : List ℕ → Output
waits l = record { text = []; marks = take (get_or l 10 0) (drop 12 l); marks_at = get_or l 11 0; repeat = get_or l 9 0; issues = [] }

-- the state that they say, "the text and issues before it aside"
unfoldable pub state_of : List ℕ → State
state_of l =
    record {
      sets = get_or l 2 0 ∷ get_or l 3 0 ∷ get_or l 4 0 ∷ get_or l 5 0 ∷ [];
      gl = get_or l 6 0;
      gr = get_or l 7 0;
      narrow = eqb (get_or l 8 0) 1;
      starts = map (λ (n : ℕ). n - 1) (take 128 (drop 28 l));
      lens = take 128 (drop 156 l);
      charged = get_or l 284 0;
      out = waits l;
    }
