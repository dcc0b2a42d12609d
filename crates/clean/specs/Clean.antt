-- The clean call: request 2, "Clean or not" (docs/REQUESTS.md).
use Rattle.std.specs.Prelude.{ℕ, zero, suc, Bool, true, false, cond, List, [], ◌∷◌}
use Rattle.issues.specs.Issue.{Issue}
use Rattle.reading.specs.WithoutBuffers.{Lent, reading, refusal}

unfoldable pub is_empty : List Issue → Bool
is_empty [] = true
is_empty (i ∷ l) = false

-- "The reply must match an empty or non-empty issue list of the full reading, including marks left waiting at the very end", which a reading releases
-- with an issue
unfoldable pub clean : Lent → Bool
unfolding is_empty reading
clean c = is_empty (reading c).out.issues

-- What the call gives: the number of the refusal (0: none), and 1 for yes, 0 for no and in a refusal.
pub record Outcome : Type 0 where
  pub refused : ℕ
  pub clean : ℕ

unfoldable pub outcome_of : ℕ → Lent → Outcome
unfolding clean
outcome_of zero c = record { refused = 0; clean = cond (clean c) 1 0 }
outcome_of (suc q) c = record { refused = suc q; clean = 0 }

-- "It .. puts questions 1 to 3"
unfoldable pub outcome : Lent → Outcome
unfolding outcome_of refusal
outcome c = outcome_of (refusal c) c
