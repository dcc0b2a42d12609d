-- `measure_checked`: the reading into no buffers, and its counts.
use Rattle.questions.proofs.Refusals.{passed}
use Rattle.reading.specs.WithoutBuffers.{refusal}
use Rattle.measure.proofs.Calls.{measured}
use Rattle.measure.proofs.measure_checked.Goals as goal

pub read-counts-requires : goal.read-counts-requires
read-counts-requires c =
    (passed _ _ _ _ _ c.requires).within

pub returns : goal.returns
unfolding refusal
returns c =
    let a = c.args in
    measured a.cells.now a.initial a.width a.input.now _ c.requires c.read-counts.ensures
