-- What the search for a coding promises, before any byte is written.
use Rattle.std.specs.Prelude.{ℕ, ◌≡◌, Bool, cond, List, [], eqb, length, map, take, Option, Some, None, Result, Ok, Err}
use Rattle.base.specs.Lists.{All}
use Rattle.questions.specs.declared.refusal.Refusal as questions
use Rattle.questions.specs.Refusal.{number_of, place_of}
use Rattle.coding.specs.Admissible as admissible
use Rattle.coding.specs.Candidates.{candidates_of, rest_of}
use Rattle.coding.specs.Search.{begin, run, back, Coded}
use Rattle.coding.specs.Store.{fit}
use Rattle.coding.specs.Call.{Lent, coding, Refusal, refuse, question4, question8}
use Rattle.encode_tokens.specs.Promises.{character}
use Rattle.encode_tokens.specs.declared.Character.{Character}
use Rattle.encode_backtrack.specs.Promises.{Searched}
use Rattle.encode_find.specs.declared.Target.{Target}

-- what a call is lent, with so many bytes of room for the coding
abbrev pub asked : List ℕ → ℕ → ℕ → List ℕ → List ℕ → ℕ → Lent
asked cells initial width text store room = record { cells = cells; initial = initial; width = width; text = text; store_room = length store; coding_room = room }

-- characters, each of which has a candidate; the shortest codes are of `rest` bytes
pub record Characters (annex_e : Bool) (xs : List Character) (rest : ℕ) : Type 0 where
  pub cells : List ℕ
  pub chars : List ℕ
  pub holds : xs ≡ map (character cells) chars
  pub shortest : rest ≡ rest_of (candidates_of cells annex_e chars)
  pub each : All (λ cs. admissible.Some (λ k. Unit {0}) cs) (candidates_of cells annex_e chars)

-- the refusal of an answer, or that question 8 comes next
unfoldable pub planned : Result (Option Target) questions.Refusal → ℕ → Coded → Refusal
unfolding question8
planned (Ok l) room k = question8 room k
planned (Err e) room k = refuse (number_of e) (place_of e)

-- a node of the newest layer in the store s to which the coding of k leads, with the coding's length and its gap, where it is of the characters xs
pub record Leading (annex_e : Bool) (k : Coded) (l : Target) (s : List ℕ) (xs : List Character) : Type 0 where
  pub count : l.count ≡ length xs
  pub searched : Searched annex_e xs s l.node l.length
  pub out : back (run searched.css (begin searched.initial)).layers searched.place [] ≡ k.out
  pub length_is : l.length ≡ length k.out
  pub gap_is : l.gap ≡ k.gap

-- what an answer says of the store and the characters
unfoldable pub leads : Result (Option Target) questions.Refusal → Bool → Coded → List ℕ → List Character → Type 0
leads (Ok None) annex_e k s xs = (k.out ≡ []) × (k.gap ≡ 0)
leads (Ok (Some l)) annex_e k s xs = Leading annex_e k l s xs
leads (Err e) annex_e k s xs = Unit {0}

-- the characters, with which the array begins
unfoldable pub taken : Result (Option Target) questions.Refusal → List Character → List Character
taken (Ok None) xs = []
taken (Ok (Some l)) xs = take l.count xs
taken (Err e) xs = []

-- questions 4 to 7 of a call
pub record Planned (c : Lent) (r : Result (Option Target) questions.Refusal) (s : List ℕ) (xs : List Character) : Type 0 where
  pub answer : question4 c ≡ planned r c.coding_room (coding c)
  pub found : leads r (eqb c.width 1) (coding c) s (taken r xs)

-- question 7 of a search that gives k, its layers needing the store as in ns
pub record Led (annex_e : Bool) (k : Coded) (ns : List ℕ) (r : Result (Option Target) questions.Refusal) (s : List ℕ) (xs : List Character) : Type 0 where
  pub answer : (room : ℕ) → cond (fit (length s) ns) (question8 room k) (refuse 7 0) ≡ planned r room k
  pub found : leads r annex_e k s xs
