-- The outcome of a decoding by the first question that it fails. Assumes nothing.
use Prim.Native.Nat.{ℕ, zero, suc}
use mathlib.Core.Path.{◌≡◌, refl}
use native.Mathlib.Omega.{arith}
use lib.ListN.{length}
use Rattle.questions.specs.Questions.{first_refusal, decode_limit}
use Rattle.reading.specs.Call.{Lent, fits, refusal, outcome_of, outcome}

module _ (c : Lent) where
  number : (q : ℕ) → (outcome_of q c).refused ≡ q
  unfolding outcome_of
  number zero = refl
  number (suc q) = refl

  -- a call that is not refused gives what it wrote
  pub accepted : (outcome c).refused ≡ 0 → outcome c ≡ outcome_of 0 c
  unfolding outcome
  accepted e = go (refusal c) e
    where
      go : (q : ℕ) → (outcome_of q c).refused ≡ 0 → outcome_of q c ≡ outcome_of 0 c
      go zero h = refl
      go (suc q) h = absurd (omega (arith, h, number (suc q)))

  -- where questions 1 to 3 pass, the room decides
  pub refused_by_room : first_refusal c.cells c.initial c.width decode_limit (length c.input) ≡ 0 → (outcome c).refused ≡ fits c
  unfolding outcome refusal
  refused_by_room z = rw z (number (fits c))

  -- where one of them fails, it does in any room
  pub refused_first : (q : ℕ) → first_refusal c.cells c.initial c.width decode_limit (length c.input) ≡ suc q → (outcome c).refused ≡ suc q
  unfolding outcome refusal
  refused_first q z = rw z (number (suc q))
