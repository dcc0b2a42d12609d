-- How the struct `Out` and the two lent buffers hold what was written.
use Rattle.std.specs.Prelude.{ℕ, ◌+◌, ◌*◌, ◌≤◌, ◌≡◌, List, ◌++◌, length}
use Rattle.std.proofs.lemmas.List.Edits.{sets}
use Rattle.private_use.specs.PrivateUse.{private_use}
use Rattle.utf8.specs.Utf8.{utf8s}
use Rattle.issues.specs.Issue.{issues_numbers}
use Rattle.decode_output.specs.declared.Out.{Out}
use Rattle.decode_output.specs.Output.{Output}
use Rattle.decode_output.specs.Waiting.{packed}

-- the struct at what was written: the text's bytes without and with the waiting marks, these marks, and the counts of issues and of private-use
-- characters
abbrev pub out_of : Output → Out
out_of o =
    record {
      len = length (utf8s o.text);
      end = length (utf8s (o.text ++ o.marks));
      waiting = packed 0 o.marks;
      first = o.marks_at;
      repeat = o.repeat;
      issues = length o.issues;
      private_use = private_use (o.text ++ o.marks);
    }

-- the struct with k private-use characters more
abbrev pub counted : ℕ → Out → Out
counted k s = record { len = s.len; end = s.end; waiting = s.waiting; first = s.first; repeat = s.repeat; issues = s.issues; private_use = s.private_use + k }

-- s, t and i hold o, over buffers that were t₀ and i₀: what does not fit is counted and not written
pub record Holds (t₀ i₀ : List ℕ) (o : Output) (s : Out) (t i : List ℕ) : Type 0 where
  pub state : s ≡ out_of o
  pub text : t ≡ sets t₀ 0 (utf8s (o.text ++ o.marks))
  pub issues : i ≡ sets i₀ 0 (issues_numbers o.issues)

-- from s, t, i to s', t', i' as f goes
abbrev pub Does : (Output → Output) → Out → List ℕ → List ℕ → Out → List ℕ → List ℕ → Type 0
Does f s t i s' t' i' = (t₀ i₀ : List ℕ) (o : Output) → Holds t₀ i₀ o s t i → Holds t₀ i₀ (f o) s' t' i'

-- the waiting marks stand behind the text, and a private-use character takes at least a byte
abbrev pub Ordered : Out → Type 0
Ordered s = (s.len ≤ s.end) × (s.private_use ≤ s.end)

-- Room for n more characters, each of at most four bytes and written at most 63 times, and for k more issues. Only an `Out` is asked for it: that is
-- the decoder's own state, which `start` makes and which the functions of this crate and a new repeat alone change, so no caller's input can break it.
-- The text's bytes are a number of 32 bits, as a position is, and so are the counts.
pub record Room (n k : ℕ) (s : Out) : Type 0 where
  pub ordered : Ordered s
  pub repeat : s.repeat ≤ 63
  pub text : s.end + 256 * n ≤ 0xFFFFFFFF
  pub issues : s.issues + k ≤ 0xFFFFFFFF

-- from s to r at most n characters and k issues came
pub record Grew (n k : ℕ) (s r : Out) : Type 0 where
  pub ordered : Ordered r
  pub repeat : r.repeat ≤ 63
  pub text : r.end ≤ s.end + 256 * n
  pub issues : r.issues ≤ s.issues + k

-- what a function gives that writes as f goes, at most n characters and k issues
pub record Wrote (n k : ℕ) (f : Output → Output) (s : Out) (t i : List ℕ) (r : Out) (t' i' : List ℕ) : Type 0 where
  pub does : Does f s t i r t' i'
  pub grew : Grew n k s r
