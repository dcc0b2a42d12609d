-- `room_for` meets its contract. Assumes nothing.
use native.Mathlib.Omega.{arith}
use Rattle.keys_lines.proofs.Writing.{room_less, room_most}
use Rattle.keys_lines.proofs.room_for.Goals as goal

pub overflow_mul-n : goal.overflow_mul-n
overflow_mul-n c = omega arith

pub overflow_mul-result : goal.overflow_mul-result
overflow_mul-result c = omega arith

pub returns-then-n-lt196608 : goal.returns-then-n-lt196608
returns-then-n-lt196608 c = room_less _ c.if-n-lt196608.true

pub returns-else-n-lt196608 : goal.returns-else-n-lt196608
returns-else-n-lt196608 c = room_most _ c.if-n-lt196608.false
