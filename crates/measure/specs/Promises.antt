-- What the functions of the measuring call promise.
use Rattle.std.specs.Prelude.{ℕ, ◌≡◌, Result, Ok, Err}
use Rattle.reading.specs.WithoutBuffers.{Lent}
use Rattle.measure.specs.Measure.{outcome}
use Rattle.questions.specs.declared.refusal.Refusal.{Refusal}
use Rattle.questions.specs.Refusal.{refused, refused_at}
use Rattle.measure.specs.declared.Measured.{Measured}

-- what the call answers: what was measured, or the first question that fails
abbrev pub MeasureAnswer : Type 0
MeasureAnswer = Result Measured Refusal

-- an answer's numbers by case: that of the refusal, 0 where there is none, and its place; the counts, 0 in a refusal
abbrev pub number_of : MeasureAnswer → ℕ
number_of = refused

abbrev pub place_of : MeasureAnswer → ℕ
place_of = refused_at

abbrev pub text_of : MeasureAnswer → ℕ
text_of (Ok counts) = counts.text
text_of (Err e) = 0

abbrev pub issues_of : MeasureAnswer → ℕ
issues_of (Ok counts) = counts.issues
issues_of (Err e) = 0

abbrev pub charged_of : MeasureAnswer → ℕ
charged_of (Ok counts) = counts.charged
charged_of (Err e) = 0

-- every number of the answer, which is `Ok` where none is refused
pub record Answered (c : Lent) (r : MeasureAnswer) : Type 0 where
  pub number : number_of r ≡ (outcome c).refused
  pub case : number_of r ≡ 0 → r ≡ Ok (record { text = text_of r; issues = issues_of r; charged = charged_of r })
  pub place : place_of r ≡ 0
  pub counted : text_of r ≡ (outcome c).text
  pub reported : issues_of r ≡ (outcome c).issues
  pub charged : charged_of r ≡ (outcome c).charged
