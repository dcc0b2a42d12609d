-- The clean call beside decoding, as statements. proofs/Laws.antt proves each under its name.
use Rattle.std.specs.Prelude.{ℕ, ◌≡◌, cond, [], eqb}
use Rattle.reading.specs.Call as decoding
use Rattle.reading.specs.WithoutBuffers.{Lent, decoding_in, reading, refusal}
use Rattle.clean.specs.Clean.{outcome}

-- "yes" where questions 1 to 3 pass and the issue list of the full reading is empty, and nowhere else
pub record Means (c : Lent) : Type 0 where
  pub yes : refusal c ≡ 0 → (reading c).out.issues ≡ [] → (outcome c).clean ≡ 1
  pub passed : (outcome c).clean ≡ 1 → refusal c ≡ 0
  pub empty : (outcome c).clean ≡ 1 → (reading c).out.issues ≡ []

abbrev pub CleanMeans : Type 0
CleanMeans = (c : Lent) → Means c

-- where a decoding is accepted, in whatever buffers, the call says yes exactly if it counts no issue
abbrev pub CleanDecoding : Type 0
CleanDecoding = (c : Lent) (text_room issue_room : ℕ) → (decoding.outcome (decoding_in text_room issue_room c)).refused ≡ 0
    → (outcome c).clean ≡ cond (eqb (decoding.outcome (decoding_in text_room issue_room c)).issues 0) 1 0
