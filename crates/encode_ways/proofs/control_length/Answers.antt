-- `encode_ways::control_length` meets its contract: the bytes of a size control.
use Rattle.encode_ways.proofs.Choosing.{no_bytes, one_byte}
use Rattle.encode_ways.proofs.control_length.Goals as goal

pub returns-then-z-eq0 : goal.returns-then-z-eq0
returns-then-z-eq0 c = no_bytes c.args.z c.if-z-eq0.true

pub returns-else-z-eq0 : goal.returns-else-z-eq0
returns-else-z-eq0 c = one_byte c.args.z c.if-z-eq0.false
