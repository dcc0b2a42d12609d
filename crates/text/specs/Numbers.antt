-- The numbers that an exported call reports of its answer, behind the place of a refusal.
use Rattle.std.specs.Prelude.{ℕ, Bool, cond, List, [], ◌∷◌, replicate, Result, Ok, Err}
use Rattle.questions.specs.declared.refusal.Refusal.{Refusal}
use Rattle.decode_read.specs.declared.Counts.{Counts}
use Rattle.measure.specs.declared.Measured.{Measured}
use Rattle.key.specs.declared.Keyed.{Keyed}
use Rattle.catalogue.specs.declared.Found.{Found}
use Rattle.encode.specs.declared.call.Coding.{Coding}

-- a decoding: bytes of text, issues, charge, private-use characters
abbrev pub of_decoding : Counts → List ℕ
of_decoding c = c.text ∷ c.issues ∷ c.charged ∷ c.private_use ∷ []

-- a measuring call: bytes of text, issues, charge
abbrev pub of_measuring : Measured → List ℕ
of_measuring m = m.text ∷ m.issues ∷ m.charged ∷ []

-- a clean call: 1 for yes, 0 for no
abbrev pub of_clean : Bool → List ℕ
of_clean said = cond said 1 0 ∷ []

-- a key: its bytes, the charge
abbrev pub of_key : Keyed → List ℕ
of_key k = k.len ∷ k.charged ∷ []

-- a find: entries that have the key, the smallest of their numbers
abbrev pub of_find : Found → List ℕ
of_find f = f.entries ∷ f.number ∷ []

-- a coding: its bytes, the gap
abbrev pub of_coding : Coding → List ℕ
of_coding c = c.length ∷ c.gap ∷ []

-- the n numbers of an answer: those of what was accepted, "all counts 0" in a refusal
abbrev pub reported : {A : Type 0} → (A → List ℕ) → ℕ → Result A Refusal → List ℕ
reported f n (Ok x) = f x
reported f n (Err e) = replicate n 0
