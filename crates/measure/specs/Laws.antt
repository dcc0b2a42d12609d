-- The measuring call beside decoding, as statements: for every table, option and input. proofs/Laws.antt proves each under its name.
use Rattle.std.specs.Prelude.{ℕ, suc, ◌*◌, ◌/◌, ◌≤◌, ◌<◌, ◌≡◌}
use Rattle.issues.specs.Issue.{numbers}
use Rattle.reading.specs.Call as decoding
use Rattle.reading.specs.WithoutBuffers.{Lent, decoding_in}
use Rattle.measure.specs.Measure.{outcome}

-- what decoding the same input into buffers of these lengths gives
abbrev pub decoded : Lent → ℕ → ℕ → decoding.Outcome
decoded c text_room issue_room = decoding.outcome (decoding_in text_room issue_room c)

-- "They are the three numbers that decoding returns when its buffers are large enough": in whatever buffers it is accepted
pub record SameNumbers (c : Lent) (text_room issue_room : ℕ) : Type 0 where
  pub text : (outcome c).text ≡ (decoded c text_room issue_room).text
  pub issues : (outcome c).issues ≡ (decoded c text_room issue_room).issues
  pub charged : (outcome c).charged ≡ (decoded c text_room issue_room).charged

abbrev pub MeasureDecoding : Type 0
MeasureDecoding = (c : Lent) (text_room issue_room : ℕ) → (decoded c text_room issue_room).refused ≡ 0 → SameNumbers c text_room issue_room

-- "Questions 1 to 3 apply": decoding is refused with the same number, in whatever buffers
abbrev pub MeasureRefused : Type 0
MeasureRefused = (c : Lent) (q : ℕ) → (outcome c).refused ≡ suc q → (text_room issue_room : ℕ) → (decoded c text_room issue_room).refused ≡ suc q

-- buffers of those sizes or more bring no other refusal than one by questions 1 to 3; of the issue buffer a fifth of its length counts, rounded down
abbrev pub LargeEnough : Type 0
LargeEnough = (c : Lent) (text_room issue_room : ℕ) → (outcome c).text ≤ text_room → (outcome c).issues ≤ issue_room / numbers
    → (decoded c text_room issue_room).refused ≡ (outcome c).refused

-- "Buffers of just those sizes are never met with 8 or 9"
abbrev pub ExactBuffers : Type 0
ExactBuffers = (c : Lent) → (decoded c (outcome c).text ((outcome c).issues * numbers)).refused ≡ (outcome c).refused

-- "one byte .. less always is": with 8, whatever the other buffer
abbrev pub OneByteLess : Type 0
OneByteLess = (c : Lent) (text_room issue_room : ℕ) → text_room < (outcome c).text → (decoded c text_room issue_room).refused ≡ 8

-- "or one issue less": with 9 where the text fits, whatever the remainder of the issue buffer
abbrev pub OneIssueLess : Type 0
OneIssueLess = (c : Lent) (text_room issue_room : ℕ) → (outcome c).text ≤ text_room → issue_room / numbers < (outcome c).issues
    → (decoded c text_room issue_room).refused ≡ 9
