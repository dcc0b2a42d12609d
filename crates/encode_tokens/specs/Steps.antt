-- What the steps of the passes promise.
use Rattle.std.specs.Prelude.{ℕ, ◌≤◌, ◌≡◌, Bool, List, [], ◌∷◌, Option, Some, None, Result, Ok, Err, IfSome}
use Rattle.std.proofs.Math.Option as coding-option
use Rattle.questions.specs.declared.refusal.Refusal.{Refusal}
use Rattle.questions.specs.declared.refusal.Refusal.TheVariants.{Unencodable}
use Rattle.coding.specs.Candidates.{Cand, candidates, candidates_of, shortest}
use Rattle.coding.specs.Tokens as coding
use Rattle.coding.specs.Tokens.{tokens, in_order, chars}
use Rattle.coding.specs.Call.{without}
use Rattle.encode_tokens.specs.Promises.{character, Ready}
use Rattle.encode_tokens.specs.declared.Character.{Character}
use Rattle.encode_tokens.specs.declared.Next.{Next}
use Rattle.encode_tokens.specs.declared.Ordered.{Ordered}
use Rattle.encode_tokens.specs.declared.Token.{Token}

-- the place of the first mark that has no base, as the code answers it
abbrev pub place_of_mark : coding-option.Option ℕ → Option ℕ
place_of_mark coding-option.none = None
place_of_mark (coding-option.some place) = Some place

-- a character at a place
abbrev pub token : Token → coding.Token
token x = record { place = x.place; char = x.char }

-- where the base b waits and x follows, whatever comes after them: the character that is coded next, and the base that then waits
pub record Orders (b x : Token) (r : Next) : Type 0 where
  pub ordered : (ts : List coding.Token) → coding.ordered (token b) (token x ∷ ts) ≡ token r.coded ∷ coding.ordered (token r.base) ts

-- the length of the shortest of a character's candidates, if it has one
unfoldable pub shortest_of : List Cand → Option ℕ
unfolding shortest
shortest_of [] = None
shortest_of (k ∷ ks) = Some (shortest (k ∷ ks))

-- x is the character c with its cells; r is the length of its shortest code, if it has a candidate
pub record Appended (cells : List ℕ) (annex_e : Bool) (c : ℕ) (x : Character) (r : Option ℕ) : Type 0 where
  pub character : x ≡ character cells c
  pub shortest : r ≡ shortest_of (candidates cells annex_e c)
  pub short : IfSome r (λ n. n ≤ 2)

-- "6 at the first without"
pub record Missing (cells : List ℕ) (annex_e : Bool) (text : List ℕ) (e : Refusal) : Type 0 where
  pub place : ℕ
  pub question : e ≡ Unencodable place
  pub first : without (in_order (tokens text)) (candidates_of cells annex_e (chars (in_order (tokens text)))) ≡ coding-option.some place

-- the array holds the characters, or one of them has no candidate
unfoldable pub Ordering : List ℕ → Bool → List ℕ → Result Ordered Refusal → List Character → Type 0
Ordering cells annex_e text (Ok o) xs = Ready cells annex_e text o.count o.rest xs
Ordering cells annex_e text (Err e) xs = Missing cells annex_e text e
