-- `distinct` meets its contract: the length of the run of all places. Assumes nothing.
use mathlib.Core.Path.{refl, sym}
use lib.ListN.{replicate}
use Rattle.catalogue_distinct.proofs.Sorting.{part_long, room_fits, count_is}
use Rattle.catalogue_distinct.proofs.distinct.Goals as goal

pub slice_bounds-sort-end : goal.slice_bounds-sort-end
slice_bounds-sort-end c =
    sym (part_long (replicate 1024 0) c.args.places.now c.args.n refl c.requires.n_bound)

pub sort-requires : goal.sort-requires
sort-requires c =
    room_fits (replicate 1024 0) c.args.places.now c.args.n refl c.requires.n_bound c.requires.n_in_bounds

pub returns : goal.returns
returns c =
    let s = c.sort in
    count_is (replicate 1024 0) c.args.places.now c.args.n refl c.requires.n_bound s.new.runs s.result s.ensures.holds s.ensures.few
    s.auto.runs
