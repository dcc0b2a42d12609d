-- `encode_candidates::shortest` meets its contract. The invariant: every candidate so far has two bytes. Assumes nothing.
use Rattle.encode_candidates.proofs.Lengths.{Twos}
use Rattle.encode_candidates.proofs.shortest.Given as goal

abbrev pub invariant-loop-candidate : goal.invariant-loop-candidate
invariant-loop-candidate g l = Twos g.C.Coded.stands_for l.candidates l.candidate-index
