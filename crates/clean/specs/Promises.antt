-- What the functions of the clean call promise.
use Rattle.std.specs.Prelude.{ℕ, ◌≡◌, Bool, cond, Result, Ok, Err}
use Rattle.questions.specs.declared.refusal.Refusal.{Refusal}
use Rattle.questions.specs.Refusal.{refused, refused_at}
use Rattle.reading.specs.WithoutBuffers.{Lent}
use Rattle.clean.specs.Clean.{clean, outcome}

-- what the call answers: whether there is no issue, or the first question that fails
abbrev pub CleanAnswer : Type 0
CleanAnswer = Result Bool Refusal

-- an answer's numbers by case: that of the refusal, 0 where there is none, and its place; 1 for yes, 0 for no and in a refusal
abbrev pub number_of : CleanAnswer → ℕ
number_of = refused

abbrev pub place_of : CleanAnswer → ℕ
place_of = refused_at

abbrev pub clean_of : CleanAnswer → ℕ
clean_of (Ok said) = cond said 1 0
clean_of (Err e) = 0

-- every number of the answer, which is `Ok` where none is refused
pub record Answered (c : Lent) (r : CleanAnswer) : Type 0 where
  pub number : number_of r ≡ (outcome c).refused
  pub case : number_of r ≡ 0 → r ≡ Ok (clean c)
  pub place : place_of r ≡ 0
  pub said : clean_of r ≡ (outcome c).clean
