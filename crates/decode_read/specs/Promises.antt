-- What the reading of a whole string promises.
use Rattle.std.specs.Prelude.{ℕ, ◌≤◌, ◌≡◌, List, length}
use Rattle.std.proofs.lemmas.List.Edits.{sets}
use Rattle.private_use.specs.PrivateUse.{private_use}
use Rattle.utf8.specs.Utf8.{utf8s}
use Rattle.issues.specs.Issue.{issues_numbers}
use Rattle.reading.specs.State.{Given, State, given}
use Rattle.reading.specs.Steps.{decode}
use Rattle.reading.specs.Between.{rest}
use Rattle.decode_state.specs.declared.Decoder.{Decoder}
use Rattle.decode_state.specs.Promises.{view, Holds}
use Rattle.decode_read.specs.declared.Counts.{Counts}

-- r counts what is written at s, and t' and i', which were t and i, hold what of it fits
pub record Counted (s : State) (t i : List ℕ) (r : Counts) (t' i' : List ℕ) : Type 0 where
  pub text : r.text ≡ length (utf8s s.out.text)
  pub issues : r.issues ≡ length s.out.issues
  pub charged : r.charged ≡ s.charged
  pub private_use : r.private_use ≡ private_use s.out.text
  pub written : t' ≡ sets t 0 (utf8s s.out.text)
  pub listed : i' ≡ sets i 0 (issues_numbers s.out.issues)

-- so of the rest of a reading, from a state that d holds at a byte; it has at most an issue for each byte that is read, of 65,535 bytes and the bodies
-- that their budget pays for, and one for the marks at the end, and at most 256 bytes of text for each
pub record ReadOn (cells input : List ℕ) (from : ℕ) (d : Decoder) (t i : List ℕ) (r : Counts) (t' i' : List ℕ) : Type 0 where
  pub counted : (g : Given) → g.cells ≡ cells → g.input ≡ input → (t₀ i₀ : List ℕ) (s : State) → Holds g t₀ i₀ s (view d) t i → Counted (rest g from s) t₀ i₀ r t' i'
  pub few : r.issues ≤ 4263872
  pub short : r.text ≤ 0x7FFFFFFF

-- so of the reading of the input
pub record Read (cells : List ℕ) (initial width : ℕ) (input t i : List ℕ) (r : Counts) (t' i' : List ℕ) : Type 0 where
  pub counted : Counted (decode (given cells width input) initial) t i r t' i'
  pub few : r.issues ≤ 4263872
