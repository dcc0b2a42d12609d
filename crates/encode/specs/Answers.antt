-- What the coding call promises.
use Rattle.std.specs.Prelude.{ℕ, ◌≡◌, List, [], length, Result, Ok, Err}
use Rattle.questions.specs.declared.refusal.Refusal as refusals
use Rattle.questions.specs.Refusal.{refused, refused_at}
use Rattle.questions.specs.Buffer.{padded}
use Rattle.coding.specs.Search.{Coded}
use Rattle.coding.specs.Call.{Lent, Refusal, outcome}
use Rattle.encode_find.specs.Plans.{asked}
use Rattle.encode.specs.declared.call.Coding.{Coding}

-- what the call answers: the coding, or the first question that fails
abbrev pub Answer : Type 0
Answer = Result Coding refusals.Refusal

-- an answer's values by case: the number of the refusal, 0 where there is none, and its place; the length and the gap, 0 in a refusal
abbrev pub number_of : Answer → ℕ
number_of = refused

abbrev pub place_of : Answer → ℕ
place_of = refused_at

abbrev pub length_of : Answer → ℕ
length_of (Ok coding) = coding.length
length_of (Err e) = 0

abbrev pub gap_of : Answer → ℕ
gap_of (Ok coding) = coding.gap
gap_of (Err e) = 0

-- zeros throughout
pub record Zeroed (s b s' b' : List ℕ) : Type 0 where
  pub store : s' ≡ padded (length s) []
  pub buffer : b' ≡ padded (length b) []

-- a refusal: which, and zeros throughout
pub record Refuses (e : refusals.Refusal) (s b : List ℕ) (r : Answer) (s' b' : List ℕ) : Type 0 where
  pub answer : r ≡ Err e
  pub zeros : Zeroed s b s' b'

-- the answer f to the questions, and the coding k, as the answer of a call with a store s and a buffer b
pub record Answers (f : Refusal) (k : Coded) (s b : List ℕ) (r : Answer) (s' b' : List ℕ) : Type 0 where
  pub number : number_of r ≡ f.number
  pub case : number_of r ≡ 0 → r ≡ Ok (record { length = length_of r; gap = gap_of r })
  pub accepted : number_of r ≡ 0 → (place_of r ≡ 0) × (length_of r ≡ length k.out) × (gap_of r ≡ k.gap) × (b' ≡ padded (length b) k.out)
  pub refused : (number_of r ≡ 0 → ⊥) → (place_of r ≡ f.place) × (length_of r ≡ 0) × (gap_of r ≡ 0) × (b' ≡ padded (length b) [])
  pub store : s' ≡ padded (length s) []

-- what a call is lent
abbrev pub lent : List ℕ → ℕ → ℕ → List ℕ → List ℕ → List ℕ → Lent
lent cells initial width text store buffer = asked cells initial width text store (length buffer)

-- every number of the answer, which is `Ok` where none is refused, and every element of buffer and store
pub record Answered (c : Lent) (r : Answer) (store buffer : List ℕ) : Type 0 where
  pub number : number_of r ≡ (outcome c).refused
  pub case : number_of r ≡ 0 → r ≡ Ok (record { length = length_of r; gap = gap_of r })
  pub place : place_of r ≡ (outcome c).place
  pub counted : length_of r ≡ (outcome c).length
  pub gap : gap_of r ≡ (outcome c).gap
  pub written : buffer ≡ (outcome c).buffer
  pub cleared : store ≡ (outcome c).store
