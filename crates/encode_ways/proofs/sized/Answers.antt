-- `encode_ways::sized` meets its contract: the state after a size control.
use mathlib.Core.Path.{refl}
use Rattle.coding.specs.Search.{sized}
use Rattle.encode_candidates.specs.Packed.{size_of}
use Rattle.encode_ways.proofs.sized.Goals as goal

pub returns-in-Either : goal.returns-in-Either
unfolding size_of sized
returns-in-Either c = record { proper = c.requires; is = rw c.in-Either.is refl }

pub returns-in-Narrow : goal.returns-in-Narrow
unfolding size_of sized
returns-in-Narrow c = rw c.in-Narrow.is c.resize.ensures

pub returns-in-Wide : goal.returns-in-Wide
unfolding size_of sized
returns-in-Wide c = rw c.in-Wide.is c.resize-in-Wide.ensures
