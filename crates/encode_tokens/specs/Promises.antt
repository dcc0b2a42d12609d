-- What the passes over the text promise: questions 4 to 6, and the characters in the order in which they are coded.
use Rattle.std.specs.Prelude.{ℕ, ◌*◌, ◌≤◌, ◌≡◌, Bool, List, eqb, length, take, map, Result, Ok, Err}
use Rattle.std.proofs.Math.Option.{none}
use Rattle.questions.specs.declared.refusal.Refusal as questions
use Rattle.questions.specs.Refusal.{number_of, place_of}
use Rattle.tables_reverse.specs.Reverse.{kanji_reverse, additional_reverse}
use Rattle.coding.specs.Candidates.{candidates_of, rest_of}
use Rattle.coding.specs.Tokens.{tokens, in_order, chars}
use Rattle.coding.specs.Call.{Lent, Refusal, refuse, without, question4, question7}
use Rattle.encode_candidates.specs.Packed.{packed}
use Rattle.encode_tokens.specs.declared.Character.{Character}
use Rattle.encode_tokens.specs.declared.Ordered.{Ordered}

-- the array has room for the characters of a text
pub record ArraysFit (text : List ℕ) (xs : List Character) : Type 0 where
  pub room : length text ≤ length xs

-- a character with its cell of the Kanji set and of the additional symbols
abbrev pub character : List ℕ → ℕ → Character
character cells c = record { char = c; kanji = packed (kanji_reverse cells c); symbol = packed (additional_reverse c) }

-- the array holds characters, each with its cells
pub record HoldCharacters (cells cs : List ℕ) (xs : List Character) : Type 0 where
  pub characters : take (length cs) xs ≡ map (character cells) cs

-- It holds the text's characters, n in number, each of which has a candidate; r is the sum of their shortest codes.
pub record Ready (cells : List ℕ) (annex_e : Bool) (text : List ℕ) (n r : ℕ) (xs : List Character) : Type 0 where
  pub holds : HoldCharacters cells (chars (in_order (tokens text))) xs
  pub count : n ≡ length (chars (in_order (tokens text)))
  pub few : n ≤ length text
  pub each : without (in_order (tokens text)) (candidates_of cells annex_e (chars (in_order (tokens text)))) ≡ none
  pub rest : r ≡ rest_of (candidates_of cells annex_e (chars (in_order (tokens text))))
  pub short : r ≤ 2 * n

-- what an answer says of questions 4 to 6 of a call: the refusal, or that question 7 comes next
unfoldable pub answered : Result Ordered questions.Refusal → Lent → Refusal
unfolding question7
answered (Ok o) c = question7 c
answered (Err e) c = refuse (number_of e) (place_of e)

-- what it says of the array, where it does not refuse
unfoldable pub left : Result Ordered questions.Refusal → List ℕ → Bool → List ℕ → List Character → Type 0
left (Ok o) cells annex_e text xs = Ready cells annex_e text o.count o.rest xs
left (Err e) cells annex_e text xs = Unit {0}

pub record Tokenised (cells : List ℕ) (annex_e : Bool) (text : List ℕ) (r : Result Ordered questions.Refusal) (xs : List Character) : Type 0 where
  pub answer : (c : Lent) → c.cells ≡ cells → eqb c.width 1 ≡ annex_e → c.text ≡ text → question4 c ≡ answered r c
  pub array : left r cells annex_e text xs
