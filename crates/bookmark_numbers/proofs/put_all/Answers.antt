-- `put_all` meets its contract. Assumes nothing.
use Rattle.bookmark_numbers.proofs.Putting.{put_copied}
use Rattle.bookmark_numbers.proofs.put_all.Goals as goal

pub returns : goal.returns
returns c = put_copied c.args.store.now c.args.s.now c.args.at c.requires c.copy_from_slice.ensures.after
