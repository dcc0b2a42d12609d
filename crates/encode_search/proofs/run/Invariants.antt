-- `encode_search::run` meets its contract: where the loop stands after each character. Assumes nothing.
use Rattle.encode_search.proofs.Running.{Going}
use Rattle.encode_search.proofs.run.Given as goal

abbrev pub invariant-loop-character : goal.invariant-loop-character
invariant-loop-character l = Going l.characters l.task.annex l.task.rest l.initial.store l.store l.character-index l.from l.at
