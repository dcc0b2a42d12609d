-- `encode_writing::put` meets its contract: past the end nothing is written, as `set` does. Assumes nothing.
use mathlib.Core.Path.{refl, sym}
use lib.Seq.{set_out}
use Rattle.lent.proofs.Putting.{put_one}
use Rattle.encode_writing.proofs.put.Goals as goal

pub returns-then-at-coding : goal.returns-then-at-coding
returns-then-at-coding c = put_one _ _ refl refl

pub returns : goal.returns
returns c = put_one _ _ (sym (set_out _ _ _ c.if-at-coding.false)) refl
