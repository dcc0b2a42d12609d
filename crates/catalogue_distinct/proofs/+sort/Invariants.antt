-- `sort` calls itself for the two parts of the numbers, and each part is shorter. Assumes nothing.
use lib.ListN.{length}
use Rattle.catalogue_distinct.proofs.+sort.Given as goal

abbrev pub decreases-sort : goal.decreases-sort
decreases-sort l = length l.runs.now
