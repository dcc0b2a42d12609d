-- `tables_onebyte::alphanumeric` meets its contract. Assumes nothing.
use Rattle.tables_onebyte.proofs.alphanumeric.Goals as goal

pub returns : goal.returns
returns c = rw c.alphanumeric_at.ensures at c.one_byte_of.ensures
