-- What the functions that count different keys promise.
use Rattle.std.specs.Prelude.{ℕ, ◌+◌, ◌*◌, ◌/◌, ◌%◌, ◌≤◌, ◌<◌, ◌≡◌, ◌⊎◌, List, [], ◌∷◌, length, get_or, take, drop}
use Rattle.std.proofs.Math.Seq.{slice}
use Rattle.base.specs.Lists.{All}
use Rattle.catalogue_distinct.specs.Distinct.{same, among, records}
use Rattle.catalogue_distinct.specs.Runs.{record_of, records_of, Below, After, last_of, or}

-- x and y are alike from the byte `from` on up to the byte r
pub record Alike (x y : List ℕ) (from r : ℕ) : Type 0 where
  pub least : from ≤ r
  pub most : r ≤ 256
  pub before : take from x ≡ take from y → take r x ≡ take r y

-- and differ there, unless they end
pub record Common (x y : List ℕ) (from r : ℕ) : Type 0 where
  pub alike : Alike x y from r
  pub there : r < 256 → get_or x r 0 ≡ get_or y r 0 → ⊥

-- a number of a run stands for a place of the catalogue
pub record Inside (places : List ℕ) (i : ℕ) : Type 0 where
  pub within : i / 256 * 260 + 260 ≤ length places
  pub small : i / 256 < 1024

-- A turn of a merge, of two runs that begin with x and y and go on behind one record: `first` goes on behind it, and behind `first` go on the two runs without so
-- many of their numbers, x' and y' standing for x and y. No record is lost, and none is new.
pub record Turned (places : List ℕ) (x y first x' y' left right : ℕ) : Type 0 where
  pub next : (k xs ys : List ℕ) → After places k (x ∷ xs) → After places k (y ∷ ys) → Below (first % 256) k (record_of places first)
  pub left_on : (k xs ys : List ℕ) → After places k (x ∷ xs) → After places k (y ∷ ys) → After places (record_of places first) (drop left (x' ∷ xs))
  pub right_on : (k xs ys : List ℕ) → After places k (x ∷ xs) → After places k (y ∷ ys) → After places (record_of places first) (drop right (y' ∷ ys))
  pub members : (k xs ys : List ℕ) → After places k (x ∷ xs) → After places k (y ∷ ys) → (j : List ℕ) →
      or (among j (records_of places (x ∷ xs))) (among j (records_of places (y ∷ ys)))
      ≡ or (same j (record_of places first)) (or (among j (records_of places (drop left (x' ∷ xs)))) (among j (records_of places (drop right (y' ∷ ys)))))
  pub first_inside : Inside places first
  pub left_inside : Inside places x'
  pub right_inside : Inside places y'
  pub some : 1 ≤ left + right
  pub left_few : left ≤ 1
  pub right_few : right ≤ 1

-- a run of the catalogue's places
pub record Sorted (places run : List ℕ) : Type 0 where
  pub order : After places [] run
  pub inside : All (Inside places) run

-- what a merge was given: a run in the first a numbers, one from the number `half` to `end`, and as much room
pub record Halves (places runs spare : List ℕ) (half a end : ℕ) : Type 0 where
  pub left : Sorted places (take a runs)
  pub right : Sorted places (slice half end runs)
  pub left_end : a ≤ half
  pub right_start : half ≤ end
  pub right_end : end ≤ length runs
  pub room : length runs ≤ length spare

-- a merge of xs₀ and ys₀ under way: the run zs is put, and behind it go on xs and ys, which are left
pub record Merging (places xs₀ ys₀ zs xs ys : List ℕ) : Type 0 where
  pub put : Sorted places zs
  pub left : After places (last_of places [] zs) xs
  pub left_inside : All (Inside places) xs
  pub right : After places (last_of places [] zs) ys
  pub right_inside : All (Inside places) ys
  pub members : (k : List ℕ) → or (among k (records_of places zs)) (or (among k (records_of places xs)) (among k (records_of places ys)))
      ≡ or (among k (records_of places xs₀)) (among k (records_of places ys₀))

-- where a merge of two runs of `before` stands: so far in each, and so many numbers are put
pub record Stands (places before runs spare : List ℕ) (half a end left right put : ℕ) : Type 0 where
  pub state : Merging places (take a before) (slice half end before) (take put spare) (slice left a runs) (slice right end runs)
  pub left_end : left ≤ a
  pub right_start : half ≤ right
  pub right_end : right ≤ end
  pub few : put + half ≤ left + right

-- it stands so, and one run is at its end
pub record Stopped (places before runs spare : List ℕ) (half a end left right put : ℕ) : Type 0 where
  pub stands : Stands places before runs spare half a end left right put
  pub over : (left ≡ a) ⊎ (right ≡ end)

-- zs is a run of the records of xs and of ys
pub record Merged (places xs ys zs : List ℕ) : Type 0 where
  pub sorted : Sorted places zs
  pub members : (k : List ℕ) → among k (records_of places zs) ≡ or (among k (records_of places xs)) (among k (records_of places ys))

-- `run` has the different records of n places from the place `from` on
pub record Holds (places : List ℕ) (from n : ℕ) (run : List ℕ) : Type 0 where
  pub sorted : Sorted places run
  pub members : (k : List ℕ) → among k (records_of places run) ≡ among k (records n (drop (from * 260) places))
