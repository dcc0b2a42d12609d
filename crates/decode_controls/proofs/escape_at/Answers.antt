-- `escape_at` meets its contract: a row of Tables 7-1 and 7-2 for each number of bytes. Assumes nothing.
use Rattle.decode_controls.proofs.Escapes.{means_shift, few_none, many_none}
use Rattle.decode_controls.proofs.escape_at.Goals as goal

pub returns-in-len1 : goal.returns-in-len1
returns-in-len1 c = means_shift _ c.in-len1.len_at_least c.in-len1.len_below c.locking_shift.ensures

pub returns-in_default : goal.returns-in_default
returns-in_default c = few_none _ c.in_default.len_below

pub returns-in_default-2 : goal.returns-in_default-2
returns-in_default-2 c = many_none _ c.in_default.len_at_least
