-- The laws of coding, as statements: 01, "Coding", and demand 3. proofs/Coding.antt proves each under its name.
use Rattle.std.specs.Prelude.{ℕ, ◌+◌, ◌-◌, ◌*◌, ◌≤◌, ◌≡◌, ◌⊎◌, Bool, true, cond, List, [], ◌∷◌, ◌++◌, leb, length, take}
use Rattle.std.proofs.Math.Option.{none}
use Rattle.questions.specs.Questions.{encode_limit, decode_limit}
use Rattle.utf8.specs.Utf8.{scalars}
use Rattle.coding.specs.State.{start}
use Rattle.coding.specs.Candidates.{Cand, candidates, rest_of}
use Rattle.coding.specs.Search.{Node, by_cand, reach, top, keep, alone, code}
use Rattle.coding.specs.Store.{counts, numbers, states, needs_states, fit_states}
use Rattle.coding.specs.Admissible.{Admissible}
use Rattle.coding.specs.Call.{Lent, ordering, choices, coding, without, Outcome, outcome}
use Rattle.base.specs.Lists.{All}
use Rattle.coding.specs.Admissible.{Some}

-- demand 3: "no admissible coding of that text is shorter than it by more than the gap returned beside it"; and so of any characters, by any
-- candidates
pub record NoShorter : Type 0 where
  pub text : (c : Lent) (bs : List ℕ) → Admissible (start c.initial) (choices c) bs → length (coding c).out ≤ length bs + (coding c).gap
  pub any : (css : List (List Cand)) (initial : ℕ) (bs : List ℕ) → Admissible (start initial) css bs → length (code css initial).out ≤ length bs + (code css initial).gap

-- demand 3: "it is itself admissible", where each character has a candidate
abbrev pub CodingAdmissible : Type 0
CodingAdmissible = (c : Lent) → without (ordering c) (choices c) ≡ none → Admissible (start c.initial) (choices c) (coding c).out

-- of each state of a layer that is dropped, "the state's cost plus the shortest candidate code of each character after it"
unfoldable pub overs : ℕ → ℕ → List Node → List ℕ
overs top rest [] = []
overs top rest (n ∷ ns) = cond (leb n.cost top) [] ((n.cost + rest) ∷ []) ++ overs top rest ns

-- "over all dropped states": layer by layer, from the states kept before the characters with the candidates css
unfoldable pub dropped : List (List Cand) → List Node → List ℕ
unfolding overs
dropped [] kept = []
dropped (cs ∷ css) kept =
    let full : List Node = reach cs kept 0 [] in
    overs (top full) (rest_of css) full ++ dropped css (keep (top full) full)

-- f is the least of a list
pub record Least (f : ℕ) (l : List ℕ) : Type 0 where
  pub among : Some (λ x. x ≡ f) l
  pub none_less : All (λ x. f ≤ x) l

-- "The gap is the coding's length less the floor, or 0 if that is negative or nothing was dropped"; a difference is 0 where it would be negative
pub record Gap (len gap : ℕ) (sums : List ℕ) : Type 0 where
  pub nothing : sums ≡ [] → gap ≡ 0
  pub floor : (f : ℕ) → Least f sums → gap ≡ len - f

-- demand 3: "The gap is exactly the coding's length less the floor that 01 derives from what the search dropped"
abbrev pub GapExact : Type 0
GapExact = (c : Lent) → Gap (length (coding c).out) (coding c).gap (dropped (choices c) (alone c.initial))

-- "A character costs at most nine bytes", from every state, by each of its candidates, in each way; "so every coding can be decoded"
pub record NineBytes : Type 0 where
  pub character : (cells : List ℕ) (annex_e : Bool) (c : ℕ) (n : Node) (i : ℕ) → All (λ k. All (λ m. m.cost ≤ n.cost + 9) (by_cand n i k)) (candidates cells annex_e c)
  pub text : (c : Lent) → length (coding c).out ≤ 9 * length (scalars c.text)
  pub decoded : (c : Lent) → length c.text ≤ encode_limit → length (coding c).out ≤ decode_limit

-- the coding that a call returns: its buffer's bytes, as many as the length says
abbrev pub returned : Lent → List ℕ
returned c = take (outcome c).length (outcome c).buffer

-- all of it for an accepted text: "the coding returned .. is the one to which 01's search leads"
pub record DemandThree (c : Lent) : Type 0 where
  pub led : returned c ≡ (coding c).out
  pub admissible : Admissible (start c.initial) (choices c) (returned c)
  pub shortest : (bs : List ℕ) → Admissible (start c.initial) (choices c) bs → length (returned c) ≤ length bs + (outcome c).gap
  pub gap : Gap (length (returned c)) (outcome c).gap (dropped (choices c) (alone c.initial))
  pub decoded : length (returned c) ≤ decode_limit

abbrev pub Accepted : Type 0
Accepted = (c : Lent) → (outcome c).refused ≡ 0 → DemandThree c

-- the call with a store of n numbers
abbrev pub lending : Lent → ℕ → Lent
lending c n = record { cells = c.cells; initial = c.initial; width = c.width; text = c.text; store_room = n; coding_room = c.coding_room }

-- two outcomes are alike but for the store
pub record Alike (a b : Outcome) : Type 0 where
  pub refused : a.refused ≡ b.refused
  pub place : a.place ≡ b.place
  pub length : a.length ≡ b.length
  pub gap : a.gap ≡ b.gap
  pub buffer : a.buffer ≡ b.buffer

-- "What is dropped thus follows from the text, the options and the cell table, never from the store": whatever the store, unless the answer is 7
abbrev pub StoreFree : Type 0
StoreFree = (c : Lent) (n : ℕ) → ((outcome c).refused ≡ 7 → ⊥) → ((outcome (lending c n)).refused ≡ 7 → ⊥) → Alike (outcome c) (outcome (lending c n))

-- more store never brings 7: a call that is not answered 7, and so each that is accepted, has the same answer, coding and gap with a larger store
abbrev pub MoreStore : Type 0
MoreStore = (c : Lent) (n : ℕ) → ((outcome c).refused ≡ 7 → ⊥) → c.store_room ≤ n → Alike (outcome c) (outcome (lending c n))

-- Request 7, "Everything accepted earlier is still accepted": no layer needs more numbers than four for each of its states, so a store in which the
-- older count of states fits is not answered 7; and a call that is accepted with any store is accepted with such a one
pub record StillAccepted : Type 0 where
  pub need : (css : List (List Cand)) (initial : ℕ) → All (λ n. numbers n ≤ 4 * states n) (counts css initial)
  pub fits : (c : Lent) → fit_states c.store_room (needs_states (choices c) c.initial) ≡ true → (outcome c).refused ≡ 7 → ⊥
  pub accepted : (c : Lent) (n : ℕ) → (outcome (lending c n)).refused ≡ 0 → fit_states c.store_room (needs_states (choices c) c.initial) ≡ true → (outcome c).refused ≡ 0

-- "The coding and its gap are to be those of the larger store": unless the answer is 7, it is that of a store in which the older count fits
abbrev pub LargerStore : Type 0
LargerStore = (c : Lent) (n : ℕ) → ((outcome c).refused ≡ 7 → ⊥) → fit_states n (needs_states (choices c) c.initial) ≡ true → Alike (outcome c) (outcome (lending c n))

-- a buffer of nine bytes for each character of the text suffices: 8 is not answered; and so does one of nine for each byte of the longest text
pub record NineSuffice : Type 0 where
  pub characters : (c : Lent) → 9 * length (scalars c.text) ≤ c.coding_room → (outcome c).refused ≡ 8 → ⊥
  pub longest : (c : Lent) → 9 * encode_limit ≤ c.coding_room → (outcome c).refused ≡ 8 → ⊥

-- an accepted text, whatever store and buffer a call is lent: with some that suffice it is not refused
pub record AcceptedText (c : Lent) : Type 0 where
  pub store_room : ℕ
  pub coding_room : ℕ
  pub accepted : (outcome (record { cells = c.cells; initial = c.initial; width = c.width; text = c.text; store_room = store_room; coding_room = coding_room })).refused ≡ 0

-- no refusal, or one that asks for room: 7 for the store, 8 for the buffer
abbrev pub ButForRoom : ℕ → Type 0
ButForRoom q = (q ≡ 0) ⊎ ((q ≡ 7) ⊎ (q ≡ 8))

-- it is a text that passes questions 1 to 6, which no room decides
pub record AcceptedMeans : Type 0 where
  pub passes : (c : Lent) → AcceptedText c → ButForRoom (outcome c).refused
  pub accepted : (c : Lent) → ButForRoom (outcome c).refused → AcceptedText c
