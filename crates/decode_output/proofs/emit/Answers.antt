-- `decode_output::emit` meets its contract. Assumes nothing.
use Rattle.decode_output.specs.Output.{times}
use Rattle.private_use.proofs.Laws.{count_ordinary}
use Rattle.decode_output.proofs.Callers.{uncounted}
use Rattle.decode_output.proofs.emit.Goals as goal

pub returns : goal.returns
returns c =
    let a = c.args in
    λ i. uncounted (count_ordinary (times a.o.repeat) a.c c.requires.c_value) (c.emit_uncounted.ensures i)
