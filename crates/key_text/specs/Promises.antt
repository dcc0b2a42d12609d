-- What the functions of keys promise.
use Rattle.std.specs.Prelude.{ℕ, ◌≡◌, List, length, Option as Optional, Some, None}
use Rattle.std.proofs.Math.Option.{Option, none, some}
use Rattle.utf8.specs.Utf8.{utf8s, scalars}
use Rattle.questions.specs.Buffer.{padded}
use Rattle.key_text.specs.KeyText.{key_text}

-- what an answer says that a key has for a character
abbrev pub kept_of : Optional ℕ → Option ℕ
kept_of (Some c) = some c
kept_of None = none

-- a text's key takes its place: the text up to its first fault, if it has one
pub record Removed (text : List ℕ) (r : ℕ) (after : List ℕ) : Type 0 where
  pub len : r ≡ length (utf8s (key_text (scalars text)))
  pub bytes : after ≡ padded (length text) (utf8s (key_text (scalars text)))
