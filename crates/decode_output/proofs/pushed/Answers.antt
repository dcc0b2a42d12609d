-- `decode_output::pushed` meets its contract. Assumes nothing.
use mathlib.Core.Path.{refl}
use borrow.Author.Tests.{lt-ltb, le-ltb}
use Rattle.decode_output.specs.Waiting.{pushed}
use Rattle.decode_output.proofs.pushed.Goals as goal

pub returns-then-waiting-lt-SEVENTEEN_DIGITS : goal.returns-then-waiting-lt-SEVENTEEN_DIGITS
unfolding pushed
returns-then-waiting-lt-SEVENTEEN_DIGITS c = rw (c.digit.ensures.0, lt-ltb _ _ c.if-waiting-lt-SEVENTEEN_DIGITS.true) refl

pub returns-else-waiting-lt-SEVENTEEN_DIGITS : goal.returns-else-waiting-lt-SEVENTEEN_DIGITS
unfolding pushed
returns-else-waiting-lt-SEVENTEEN_DIGITS c = rw (le-ltb _ _ c.if-waiting-lt-SEVENTEEN_DIGITS.false) refl
