-- `name_holds` meets its contract. Assumes nothing.
use mathlib.Core.Path.{refl}
use borrow.Author.Tests.{le-leb, lt-leb}
use Rattle.bookmark.specs.Bookmark.{name_holds}
use Rattle.bookmark.proofs.name_holds.Goals as goal

pub returns-then-name-gt15 : goal.returns-then-name-gt15
unfolding name_holds
returns-then-name-gt15 c =
    rw (lt-leb c.args.name 15 c.if-name-gt15.true) refl

pub returns : goal.returns
unfolding name_holds
returns c =
    rw (le-leb c.args.name 15 c.if-name-gt15.false) c.is_store.ensures
