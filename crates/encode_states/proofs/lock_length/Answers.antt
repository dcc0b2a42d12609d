-- `encode_states::lock_length` meets its contract: the bytes of the locking shift of the code element n to GL.
use Rattle.encode_states.proofs.Elements.{lock_short, lock_long}
use Rattle.encode_states.proofs.lock_length.Goals as goal

pub returns-then-n-lt2 : goal.returns-then-n-lt2
returns-then-n-lt2 c = lock_short c.args.n c.if-n-lt2.true

pub returns-else-n-lt2 : goal.returns-else-n-lt2
returns-else-n-lt2 c = lock_long c.args.n c.if-n-lt2.false
