-- The measuring call: request 5, "How much buffer" (docs/REQUESTS.md).
use Rattle.std.specs.Prelude.{ℕ, zero, suc, length}
use Rattle.utf8.specs.Utf8.{utf8s}
use Rattle.reading.specs.WithoutBuffers.{Lent, reading, refusal}

-- What the call gives: the number of the refusal (0: none), the lengths of the text and of the issues, and the charge.
pub record Outcome : Type 0 where
  pub refused : ℕ
  pub text : ℕ
  pub issues : ℕ
  pub charged : ℕ

-- "For any bytes, give the exact text length, issue count and macro charge"; 01: "A refusal gives the number .. with all counts 0"
unfoldable pub outcome_of : ℕ → Lent → Outcome
unfolding reading utf8s
outcome_of zero c = record { refused = 0; text = length (utf8s (reading c).out.text); issues = length (reading c).out.issues; charged = (reading c).charged }
outcome_of (suc q) c = record { refused = suc q; text = 0; issues = 0; charged = 0 }

-- "Questions 1 to 3 apply"
unfoldable pub outcome : Lent → Outcome
unfolding outcome_of refusal
outcome c = outcome_of (refusal c) c
