-- `title_key` meets its contract. Assumes nothing.
use Rattle.keys_lines.proofs.Writing.{passes}
use Rattle.keys_lines.proofs.title_key.Goals as goal

pub key_checked-requires : goal.key_checked-requires
key_checked-requires c =
    passes _ _ (c.requires.0 c.if-admitted.true) c.requires.1

pub returns-then-admitted : goal.returns-then-admitted
returns-then-admitted c = c.key_checked.ensures

pub returns : goal.returns
returns c = c.key.ensures
