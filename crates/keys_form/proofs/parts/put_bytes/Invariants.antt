-- `put_bytes` meets its contract: a byte a turn. Assumes nothing.
use Rattle.keys_form.proofs.Reading.{Half}
use Rattle.keys_form.proofs.parts.put_bytes.Given as goal

abbrev pub invariant-loop-i : goal.invariant-loop-i
invariant-loop-i l = Half l.ds l.initial.bytes l.bytes l.i
